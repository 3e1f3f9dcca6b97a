-- Which forms a version has.
use Rattle.std.proofs.Common.{◌≡◌, Bool, true, false, not, ◌&&◌, List, [], ◌∷◌, refl, sym, ap, ◌∙◌}
use Rattle.std.specs.Prelude.{is_some}
use Rattle.std.specs.List.{list_all}
use Rattle.std.proofs.Math.Bool.{and-true}
use Rattle.ruleset_text.specs.Entries.{Mapped, EntryForm}
use Rattle.ruleset_text.specs.EntryParts.{is_within, are_within}
use Rattle.variant_table.specs.declared.version.Version.{Version}
use Rattle.variant_table.specs.declared.version.Version.TheVariants.{One, Two, Three}
use Rattle.variant_table.specs.Forms.{parts_of, has_form}

-- neither a type by its name nor a condition
abbrev pub is_plain : Mapped → Bool
is_plain m = not (is_some m.type_name) && not (is_some m.condition)

-- no '!' either
abbrev pub is_bare : Mapped → Bool
is_bare m = is_plain m && not m.marked

-- '!' stands before the source
abbrev pub begins_marked : List Mapped → Bool
begins_marked [] = false
begins_marked (source ∷ variants) = source.marked

-- the same as the forms of a version
abbrev pub is_form : Version → EntryForm → Bool
is_form One form = list_all is_bare form.mapped && not (is_some form.last)
is_form Two form = list_all is_plain form.mapped && not (begins_marked form.mapped)
is_form Three form = true

all_plain : (ms : List Mapped) → list_all (is_within false true) ms ≡ list_all is_plain ms
all_plain [] = refl
all_plain (m ∷ ms) = ap (λ b. b && list_all (is_within false true) ms) (and-true (is_plain m)) ∙ ap (λ b. is_plain m && b) (all_plain ms)

all_within : (ms : List Mapped) → list_all (is_within true true) ms ≡ true
all_within [] = refl
all_within (m ∷ ms) = all_within ms

moved : (a b c : Bool) → ((a && c) && b) ≡ ((a && b) && c)
moved true true true = refl
moved true true false = refl
moved true false true = refl
moved true false false = refl
moved false b c = refl

pub form_parts : (version : Version) (form : EntryForm) → is_form version form ≡ has_form version form
form_parts One form = ap (λ b. b && not (is_some form.last)) (by form.mapped)
  where
    by : (ms : List Mapped) → list_all is_bare ms ≡ are_within (parts_of One) ms
    by [] = refl
    by (m ∷ ms) = refl
form_parts Two form = by form.mapped ∙ sym (and-true (are_within (parts_of Two) form.mapped))
  where
    by : (ms : List Mapped) → (list_all is_plain ms && not (begins_marked ms)) ≡ are_within (parts_of Two) ms
    by [] = refl
    by (m ∷ ms) = moved (is_plain m) (not m.marked) (list_all is_plain ms) ∙ ap (λ b. (is_plain m && not m.marked) && b) (sym (all_plain ms))
form_parts Three form = by form.mapped ∙ sym (and-true (are_within (parts_of Three) form.mapped))
  where
    by : (ms : List Mapped) → true ≡ are_within (parts_of Three) ms
    by [] = refl
    by (m ∷ ms) = sym (all_within ms)
