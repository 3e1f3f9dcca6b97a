use Rattle.std.proofs.Common.{rules, arith, ◌∙◌, sym, ap, map, length, ◌<◌}
use Rattle.std.specs.Prelude.{slice_get, option_map}
use Rattle.variant_table.proofs.PartLemmas.{field_at, length_parts, some_part}
use Rattle.variant_table.proofs.sequences.Sequences.variant_type.Goals as goal

pub returns-clause-is : goal.returns-clause-is
returns-clause-is c =
    let within : c.args.index < length c.self.inside.parts.items = omega (arith, c.requires, ap length c.self.view_is, length_parts c.self.inside.points.items c.self.inside.parts.items) in
    ap (λ s. slice_get (map (λ v. v.type) s) c.args.index) (sym c.self.view_is) ∙ field_at (λ v. v.type) c.self.inside.points.items c.self.inside.parts.items c.args.index
    ∙ ap (option_map (λ p. p.variant_type)) (some_part c.self.inside.parts.items c.args.index c.index.result.now within) ∙ search rules
