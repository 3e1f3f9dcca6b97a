use Rattle.std.proofs.Common.{rules, arith, ◌<◌, ◌-◌, ap, sym, ◌∙◌, length}
use Rattle.std.specs.Prelude.{slice_get}
use Rattle.variant_table.specs.Entries.{replacements}
use Rattle.variant_table.proofs.EntryLemmas.{replacement_at, length-replacements}
use Rattle.variant_table.proofs.entry.Entry.replacement.Goals as goal

pub overflow_add-self-inside : goal.overflow_add-self-inside
overflow_add-self-inside c =
    let few : c.args.number < c.self.inside.span.end - c.self.inside.span.start = omega (arith, c.requires, ap (λ e. length (replacements e)) c.self.view_is, length-replacements c.self.inside.sequences.now c.self.inside.span c.self.invariant.0 c.self.invariant.1) in
    search rules

pub returns : goal.returns
returns c =
    let few : c.args.number < c.self.inside.span.end - c.self.inside.span.start = omega (arith, c.requires, ap (λ e. length (replacements e)) c.self.view_is, length-replacements c.self.inside.sequences.now c.self.inside.span c.self.invariant.0 c.self.invariant.1) in
    ap (λ e. slice_get (replacements e) c.args.number) (sym c.self.view_is)
    ∙ replacement_at c.self.inside.sequences.now c.self.inside.span c.self.invariant.0 c.self.invariant.1 c.args.number few ∙ c.get.ensures
