-- The elements of a picture, as text. A class names how an element looks, by the style of the
-- picture.
use Rattle.std.specs.Prelude.{ℕ, ◌++◌, List, codes, decimal}
use Rattle.ace_svg.specs.Escaping.{escaped}
use Rattle.ace_svg.specs.declared.geometry.Point.{Point}
use Rattle.ace_svg.specs.declared.geometry.Size.{Size}

-- the beginning of an element of a class
unfoldable pub element : List ℕ → List ℕ → List ℕ
element name class = codes "<" ++ name ++ codes " class=\"" ++ class ++ codes "\""

-- a number of an element under its name
unfoldable pub attribute : List ℕ → ℕ → List ℕ
attribute name n = codes " " ++ name ++ codes "=\"" ++ decimal n ++ codes "\""

-- where an element is
unfoldable pub corner : Point → List ℕ
corner at = attribute (codes "x") at.x ++ attribute (codes "y") at.y

-- a line from one point to another
unfoldable pub line_element : List ℕ → Point → Point → List ℕ
line_element class from to =
    element (codes "line") class ++ attribute (codes "x1") from.x ++ attribute (codes "y1") from.y
    ++ attribute (codes "x2") to.x ++ attribute (codes "y2") to.y ++ codes "/>\n"

-- a rectangle by its upper left corner
unfoldable pub rectangle : List ℕ → Point → Size → List ℕ
rectangle class at size =
    element (codes "rect") class ++ corner at ++ attribute (codes "width") size.width
    ++ attribute (codes "height") size.height ++ codes "/>\n"

-- words at a point of their base line
unfoldable pub words_element : List ℕ → Point → List ℕ → List ℕ
words_element class at words =
    element (codes "text") class ++ corner at ++ codes ">" ++ escaped words ++ codes "</text>\n"

-- a title, which is shown where a pointer rests on the element that it stands in
unfoldable pub title_start : List ℕ
title_start = codes "<title>"

unfoldable pub title_end : List ℕ
title_end = codes "</title>\n"

unfoldable pub title : List ℕ → List ℕ
title words = title_start ++ escaped words ++ title_end
