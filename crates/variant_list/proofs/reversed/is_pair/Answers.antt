use Rattle.std.proofs.Common.{◌≡◌, sym, subst, ◌∙◌, List, Some, None}
use Rattle.std.specs.List.{Contains}
use Rattle.variant_table.specs.Entries.{Entry, sequences_in}
use Rattle.variant_table.specs.Places.{entry_with}
use Rattle.variant_table.proofs.BeginningLemmas.{same_entry, entry_with-found, entry_with-of}
use Rattle.variant_table.proofs.GapLemmas.{any-cases, any-member}
use Rattle.variant_list.proofs.reversed.is_pair.Goals as goal

pub returns-in-Some : goal.returns-in-Some
returns-in-Some c =
    let entries : List Entry = c.args.table.now.entries in
    let e : Entry = c.in-Some.entry in
    let found = entry_with-found entries c.args.source.now e (sym c.in-Some.ensures.entry) in (
      λ told. (e, found.0, found.1, any-cases c.args.variant.now (sequences_in e.variants) (sym c.has_variant.ensures ∙ told)),
      λ p.
          let same : p.0 ≡ e = same_entry entries p.0 e c.find.ensures.well_formed.sources p.1 found.0 (p.2 ∙ sym found.1) in
          c.has_variant.ensures ∙ any-member c.args.variant.now (sequences_in e.variants) (subst (λ (x : Entry). Contains (sequences_in x.variants) c.args.variant.now) same p.3),
    )

pub returns-in-None : goal.returns-in-None
returns-in-None c = (
  λ told. absurd cc,
  λ p. (let found : entry_with c.args.table.now.entries c.args.source.now ≡ Some p.0 = entry_with-of c.args.table.now.entries c.args.source.now p.0 c.find.ensures.well_formed.sources p.1 p.2 in
      let none : None ≡ Some p.0 = c.in-None.ensures.entry ∙ found in
      absurd cc),
)
