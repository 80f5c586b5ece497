-- How the classes of a chart look: the colours are those of Okabe and Ito, some darker for print,
-- and each is told again by a dash, a width or words.
use Rattle.std.specs.Prelude.{ℕ, ◌++◌, List, codes}

-- how words look
unfoldable pub text_styles : List ℕ
text_styles =
    codes "<style>\ntext{font:12px DejaVu Sans,Helvetica,Arial,sans-serif;fill:#1a1a1a}\ntext.heading{font-size:16px;font-weight:bold}\ntext.verdict,text.kind{fill:#595959}\ntext.name,text.kind,text.state,text.label,text.stop-label{text-anchor:middle}\ntext.name,text.state,text.wrong{font-weight:bold}\ntext.kind,text.sample{font-size:10px}\ntext.number{font:10.5px DejaVu Sans Mono,monospace;fill:#595959;text-anchor:end}\ntext.state{font-size:8.5px;stroke:#fff;stroke-width:2;paint-order:stroke}\ntext.label,text.stop-label,text.beside,text.stop-beside{font-size:11px;stroke:#fff;stroke-width:3;paint-order:stroke}\ntext.stop-label,text.stop-beside,text.wrong{fill:#b00020}\ntext.time{font:10px DejaVu Sans Mono,monospace;fill:#595959}\ntext.gap{font-size:9px;fill:#595959}\ntext.value{font:10px DejaVu Sans Mono,monospace}\ntext.reason{font-size:10px;fill:#b00020;text-anchor:end;stroke:#fff;stroke-width:3;paint-order:stroke}\n"

-- how bars, bands and squares look
unfoldable pub bar_styles : List ℕ
bar_styles =
    codes ".page{fill:#fff}\n.head{fill:#f2f2f2;stroke:#1a1a1a}\n.lifeline{stroke:#bdbdbd}\n.UC{fill:#56b4e9}\n.SC{fill:#bfe3f7}\n.UD{fill:url(#UD)}\n.SD{fill:url(#SD)}\n.grant{fill:#ffe680}\n.current{fill:#b8b8b8}\n.behind{fill:url(#behind)}\n.band{fill:#fbe3e6;stroke:#b00020}\n.granting{fill:#7a6200}\n.local{fill:#1a1a1a}\n"

-- how arrows look
unfoldable pub message_styles : List ℕ
message_styles =
    codes "line.address{stroke:#0072b2;stroke-width:1.8;marker-end:url(#address)}\nline.data{stroke:#007a5a;stroke-width:3;marker-end:url(#data)}\nline.snoop{stroke:#8a3a8a;stroke-width:1.8;stroke-dasharray:2 2.5;marker-end:url(#snoop)}\nline.response{stroke:#4d4d4d;stroke-width:1.3;stroke-dasharray:6 3;marker-end:url(#response)}\nline.memory{stroke:#5a3e00;stroke-width:3;stroke-dasharray:9 2;marker-end:url(#memory)}\nline.stop{stroke:#b00020;stroke-width:2.6;marker-end:url(#stop)}\nline.gap{stroke:#8c8c8c;stroke-dasharray:2 4}\nline.reason{marker-end:url(#stop)}\nrect.memory{fill:#5a3e00}\nrect.stop{fill:#b00020}\n</style>\n"

-- the size of the head of an arrow, between its name and its colour
unfoldable pub head_size : List ℕ
head_size =
    codes "\" viewBox=\"0 0 10 10\" refX=\"9\" refY=\"5\" markerWidth=\"9\" markerHeight=\"9\" markerUnits=\"userSpaceOnUse\" orient=\"auto\"><path d=\"M0 1L10 5L0 9z\" fill=\""

-- the size of a hatch, between its name and its colour
unfoldable pub hatch_size : List ℕ
hatch_size =
    codes "\" width=\"6\" height=\"6\" patternUnits=\"userSpaceOnUse\"><rect width=\"6\" height=\"6\" fill=\""

-- the lines of a hatch, behind its colour
unfoldable pub hatch_lines : List ℕ
hatch_lines =
    codes "\"/><path d=\"M0 6L6 0\" stroke=\"#8f3f00\" stroke-width=\"1.4\"/></pattern>\n"

-- the beginning and the end of the head of an arrow, and the beginning of a hatch
unfoldable pub head_start : List ℕ
head_start = codes "<marker id=\""

unfoldable pub head_end : List ℕ
head_end = codes "\"/></marker>\n"

unfoldable pub hatch_start : List ℕ
hatch_start = codes "<pattern id=\""

-- the head of the arrows of a class, by its colour
unfoldable pub head : List ℕ → List ℕ → List ℕ
head class colour = head_start ++ class ++ head_size ++ colour ++ head_end

unfoldable pub heads : List ℕ
heads =
    head (codes "address") (codes "#0072b2") ++ head (codes "data") (codes "#007a5a")
    ++ head (codes "snoop") (codes "#8a3a8a")
    ++ head (codes "response") (codes "#4d4d4d") ++ head (codes "memory") (codes "#5a3e00")
    ++ head (codes "stop") (codes "#b00020")

-- the hatch of a class, by the colour behind it
unfoldable pub hatch : List ℕ → List ℕ → List ℕ
hatch class colour = hatch_start ++ class ++ hatch_size ++ colour ++ hatch_lines

unfoldable pub hatches : List ℕ
hatches =
    hatch (codes "UD") (codes "#e69f00") ++ hatch (codes "SD") (codes "#f6d79b")
    ++ hatch (codes "behind") (codes "#fff")

unfoldable pub styles : List ℕ
styles = text_styles ++ bar_styles ++ message_styles ++ heads ++ hatches
