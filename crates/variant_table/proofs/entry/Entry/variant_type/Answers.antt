use Rattle.std.proofs.Common.{arith, ◌<◌, ◌-◌, ap, sym, map, ◌∙◌, length}
use Rattle.std.specs.Prelude.{slice_get}
use Rattle.variant_table.specs.Entries.{replacements, whole}
use Rattle.variant_table.proofs.EntryLemmas.{part_of, length-replacements}
use Rattle.variant_table.proofs.entry.Entry.variant_type.Goals as goal

pub returns-clause-is : goal.returns-clause-is
returns-clause-is c =
    let few : c.args.number < c.self.inside.span.end - c.self.inside.span.start = omega (arith, c.requires, ap (λ e. length (replacements e)) c.self.view_is, length-replacements c.self.inside.sequences.now c.self.inside.span c.self.invariant.0 c.self.invariant.1) in
    ap (λ e. slice_get (map (λ v. v.type) (whole e)) c.args.number) (sym c.self.view_is)
    ∙ part_of c.self.inside.sequences.now c.self.inside.span c.self.invariant.0 c.self.invariant.1 (λ v. v.type) c.args.number few ∙ c.variant_type.ensures.is
