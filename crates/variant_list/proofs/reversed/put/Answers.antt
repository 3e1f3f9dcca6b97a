use Rattle.std.proofs.Common.{◌≡◌, ap, sym, ◌∙◌, ℕ, Vec, Global}
use Rattle.std.specs.BTreeMap.{insert_entry}
use Rattle.variant_list.specs.Reversed.{sources_of}
use Rattle.variant_list.specs.inner.Turned.{groups_of}
use Rattle.variant_list.proofs.TurnedLemmas.{key_cmp, sources-inserted, others-inserted}
use Rattle.variant_list.proofs.reversed.put.Goals as goal

pub returns : goal.returns
returns c =
    let k : Vec ℕ Global = c.in_ok-from_slice.field-0 in
    let v : Vec (Vec ℕ Global) Global = c.args.of_variant in
    let is : k.items ≡ c.args.variant.now = c.in_ok-from_slice.ensures.items in
    let made : c.insert.new.self.entries ≡ insert_entry key_cmp c.args.sources.now.entries k v = c.in_ok-insert.ensures.entries in (
      ap (λ es. sources_of (groups_of es) c.args.variant.now) made ∙ ap (sources_of (groups_of (insert_entry key_cmp c.args.sources.now.entries k v))) (sym is) ∙ sources-inserted c.args.sources.now.entries k v,
      λ b other. ap (λ es. sources_of (groups_of es) b) made ∙ others-inserted c.args.sources.now.entries k v b (λ e. other (e ∙ is)),
    )
