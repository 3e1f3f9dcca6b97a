use Rattle.std.proofs.Common.{arith, ◌≡◌, ◌≤◌, ◌<◌, ◌-◌, ◌+◌, ℕ, List, ◌++◌, ◌∷◌, [], map, length, get_or, ap, refl, sym, ◌∙◌, take, append_assoc, Some}
use Rattle.std.specs.Prelude.{slice_get}
use Rattle.std.specs.Option.{option_map}
use Rattle.std.proofs.lemmas.List.{append-nil, take_all, length-map}
use Rattle.std.proofs.lemmas.Option.{slice_get_within, slice_get-get_or}
use Rattle.ruleset_text.specs.Definitions.{Definitions}
use Rattle.ruleset_text.specs.Entries.{Mapped}
use Rattle.variant_table.specs.Canonical.{separator, canonical_line}
use Rattle.variant_table.specs.Entries.{Variant, Entry, source_of}
use Rattle.variant_table.specs.Forms.{source_mark, variant_mark, mapped_by}
use Rattle.variant_table.proofs.EntryLemmas.{slice_get-map}
use Rattle.variant_table.proofs.WritingLemmas.{piece_text, pieces_text, pieces_more, canonical_line-is, slice_get-later}
use Rattle.variant_table.proofs.canonical.push_entry.Goals as goal

pub loop-number-init : goal.loop-number-init
loop-number-init c =
    let d : Definitions = c.args.definitions.now in
    let e : Entry = c.args.entry.now in
    let old : List ℕ = c.args.out.now.items in
    let source : List ℕ = piece_text (mapped_by source_mark d (source_of e)) in
    c.in_ok-push_replacement.ensures (source_of e) refl ∙ ap (λ t. old ++ t) (sym (append-nil source))

pub loop-number-preserved : goal.loop-number-preserved
loop-number-preserved c =
    let d : Definitions = c.args.definitions.now in
    let e : Entry = c.args.entry.now in
    let n : ℕ = c.loop-number.number in
    let old : List ℕ = c.args.out.now.items in
    let within : n - 1 < length e.variants = omega (arith, c.loop-number-test.true, c.replacements-number-end.ensures, length-map e.variants (λ v. v.sequence)) in
    let v : Variant = get_or e.variants (n - 1) (source_of e) in
    let here : slice_get e.variants (n - 1) ≡ Some v = slice_get-get_or e.variants (n - 1) (source_of e) within in
    let m : Mapped = mapped_by variant_mark d v in
    let ms : List Mapped = map (mapped_by variant_mark d) e.variants in
    let source : List ℕ = piece_text (mapped_by source_mark d (source_of e)) in
    let at : slice_get ms (n - 1) ≡ Some m = slice_get-map (mapped_by variant_mark d) e.variants (n - 1) ∙ ap (option_map (mapped_by variant_mark d)) here in
    let front : List ℕ = pieces_text (take (n - 1) ms) in
    let so_far : List ℕ = c.loop-number.out.items in
    let count : n + 1 - 1 ≡ n - 1 + 1 = omega arith in
    c.in_ok-push_replacement-2.ensures v (slice_get-later (source_of e) e.variants n (omega arith) ∙ here)
    ∙ ap (λ t. t ++ piece_text m) (c.in_ok-push.ensures.items ∙ ap (λ x. so_far ++ x ∷ []) c.separator_before.ensures)
    ∙ append_assoc so_far (separator (n - 1) ∷ []) (piece_text m) ∙ ap (λ t. t ++ separator (n - 1) ∷ piece_text m) c.loop-number.invariant
    ∙ append_assoc old (source ++ front) (separator (n - 1) ∷ piece_text m)
    ∙ ap (λ t. old ++ t) (append_assoc source front (separator (n - 1) ∷ piece_text m)
    ∙ ap (λ t. source ++ t) (sym (ap (λ k. pieces_text (take k ms)) count ∙ pieces_more ms (n - 1) m at (slice_get_within ms (n - 1) m at))))

pub returns : goal.returns
returns c =
    let d : Definitions = c.args.definitions.now in
    let e : Entry = c.args.entry.now in
    let n : ℕ = c.loop-number.number in
    let old : List ℕ = c.args.out.now.items in
    let ms : List Mapped = map (mapped_by variant_mark d) e.variants in
    let source : List ℕ = piece_text (mapped_by source_mark d (source_of e)) in
    let over : length ms ≤ n - 1 = omega (arith, c.loop-number-test.false, c.replacements-number-end.ensures, length-map e.variants (λ v. v.sequence), length-map e.variants (mapped_by variant_mark d)) in
    c.in_ok-push-2.ensures.items ∙ ap (λ t. t ++ 10 ∷ []) (c.loop-number.invariant ∙ ap (λ t. old ++ (source ++ pieces_text t)) (take_all (n - 1) ms over) ∙ ap (λ t. old ++ t) (sym (canonical_line-is d e)))
    ∙ append_assoc old (canonical_line d e) (10 ∷ [])
