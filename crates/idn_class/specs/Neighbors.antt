-- Before(cp) and After(cp) of RFC 5892, appendix A: the neighbors of a place of a label, where there are any.
use Rattle.std.specs.Prelude.{ℕ, zero, suc, ◌+◌, List, Option, None, slice_get}

abbrev pub before : List ℕ → ℕ → Option ℕ
before label zero = None
before label (suc place) = slice_get label place

abbrev pub after : List ℕ → ℕ → Option ℕ
after label place = slice_get label (place + 1)
