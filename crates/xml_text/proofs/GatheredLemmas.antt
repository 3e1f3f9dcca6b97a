-- Passages that are gathered.
use Rattle.std.proofs.Common.{◌≡◌, ℕ, ◌+◌, ◌++◌, List, length, take, drop, min, sym, ap, ◌∙◌}
use Rattle.std.proofs.Math.Seq.{take-append-add}
use Rattle.std.proofs.lemmas.List.{take-append-drop, take_min}

-- a part stands after what was read
pub stands_after : (begin part : List ℕ) (held len : ℕ) → take len (drop (min held (length begin)) begin) ≡ part
    → take (length (take (min held (length begin)) begin) + len) begin ≡ take held begin ++ part
stands_after begin part held len is =
    let k = min held (length begin) in
    ap (take (length (take k begin) + len)) (sym (take-append-drop k begin)) ∙ take-append-add (take k begin) (drop k begin) len
    ∙ ap (λ (x : List ℕ). take k begin ++ x) is ∙ ap (λ (x : List ℕ). x ++ part) (take_min held begin)
