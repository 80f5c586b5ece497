-- The tree of no line.
use Rattle.std.proofs.Common.{◌≡◌, ℕ, List, [], refl, sym, subst, arith}
use Rattle.ace_places.specs.Walks.{IsTree}

pub no-lines : IsTree [] []
no-lines = record {
  found = λ i low. absurd (omega arith);
  depth = λ p. 0;
  first = λ s root low. absurd (omega arith);
  below = λ p c low digit leads. absurd (omega arith);
  empty = λ s past. refl;
  small = λ i. omega arith;
  slots = λ some. absurd (omega arith);
  none = λ none. refl;
}

pub tree-begins : (lines links : List ℕ) → lines ≡ [] → links ≡ [] → IsTree lines links
tree-begins lines links one two = subst (λ l. IsTree l links) (sym one) (subst (IsTree []) (sym two) no-lines)
