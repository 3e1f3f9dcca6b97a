use Rattle.std.proofs.Common.{◌≡◌, ℕ, ◌+◌, ◌++◌, ◌∷◌, [], List, Option, map, take, sym, ap, subst, ◌∙◌}
use Rattle.std.specs.Prelude.{unwrap_or}
use Rattle.std.proofs.lemmas.List.{map-append, take_more}
use Rattle.lgr_table.specs.TableNames.{AreCalled}
use Rattle.lgr_table.specs.inner.TableNames.{names_by}
use Rattle.lgr_table.proofs.TableNameLemmas.{called-push}
use Rattle.ruleset_text.specs.Names.{is_name}
use Rattle.variant_table.specs.Entries.{TableValue}
use Rattle.lgr_table.proofs.types.define_each.Goals as goal

abbrev name_of : Option (List ℕ) → List ℕ
name_of type = unwrap_or type []

pub loop-type_name-preserved : goal.loop-type_name-preserved
loop-type_name-preserved c =
    let names = names_by c.args.names in
    let xs = c.args.names.types.now in
    let i = c.loop-type_name.type_name-index in
    let x = c.type_name-item.result in
    let t = c.args.builder.now in
    let u = c.loop-type_name.builder in
    let v = c.define_type.new.builder in
    let adds = c.in_ok-define_type.ensures in
    let types : List (List ℕ) = u.definitions.types ++ adds.given ∷ [] in
    let more : v.definitions.types ≡ types = ap (λ (w : TableValue). w.definitions.types) adds.added in
    let front : map name_of (take (i + 1) xs) ≡ map name_of (take i xs) ++ name_of x ∷ [] =
    ap (map name_of) (take_more xs i x c.loop-type_name-test.true ∙ ap (λ y. take i xs ++ y ∷ []) (sym c.type_name-item.is))
    ∙ map-append name_of (take i xs) (x ∷ []) in
    record {
      others = adds.added ∙ ap (λ (w : TableValue). record w { definitions = record w.definitions { types = types } }) c.loop-type_name.invariant.others
          ∙ ap (λ l. record t { definitions = record t.definitions { types = l } }) (sym more);
      called = subst (λ (l : List (List ℕ)). AreCalled names is_name l v.definitions.types) (sym front)
          (subst (AreCalled names is_name (map name_of (take i xs) ++ name_of x ∷ [])) (sym more)
          (called-push names is_name (map name_of (take i xs)) u.definitions.types (name_of x) adds.given c.loop-type_name.invariant.called adds.called));
    }
