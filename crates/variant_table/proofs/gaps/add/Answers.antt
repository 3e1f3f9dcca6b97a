use Rattle.std.proofs.Common.{ap, ◌∙◌, List, ℕ}
use Rattle.std.specs.BTreeSet.{insert_key}
use Rattle.variant_table.specs.Gaps.{pair_cmp, pairs_of}
use Rattle.variant_table.proofs.GapLemmas.{pairs_of-insert_key}
use Rattle.variant_table.proofs.gaps.add.Goals as goal

pub returns : goal.returns
returns c =
    let old : List (List ℕ × List ℕ) = pairs_of c.args.gaps.now.keys in
    ap pairs_of c.in_ok-insert.ensures.keys ∙ pairs_of-insert_key c.args.gaps.now.keys (c.in_ok-from_slice.field-0, c.in_ok-from_slice-2.field-0)
    ∙ ap (λ x. insert_key pair_cmp old (x, c.in_ok-from_slice-2.field-0.items)) c.in_ok-from_slice.ensures.items
    ∙ ap (λ y. insert_key pair_cmp old (c.args.first.now, y)) c.in_ok-from_slice-2.ensures.items
