-- Kinds without a type: whatever they are, the disposition is that of a source that stays and has no type.
use Rattle.std.proofs.Common.{◌≡◌, ◌&&◌, ℕ, Bool, true, false, List, [], ◌∷◌, refl, ap, ◌∙◌}
use Rattle.std.specs.Prelude.{filter, Option, Some, None, option_map, unwrap_or, if◌then◌else◌}
use Rattle.std.specs.List.{Contains, find, list_all, list_any}
use Rattle.std.proofs.lemmas.Bool.{and_parts, false_from_ne_true}
use Rattle.reading_kinds.proofs.ListMembers.{Contains-filter, Contains-head}
use Rattle.variant_dispositions.specs.declared.action.Action.{Action}
use Rattle.variant_dispositions.specs.declared.action.TypeTrigger.{TypeTrigger}
use Rattle.variant_dispositions.specs.declared.action.TypeTrigger.TheVariants as trigger
use Rattle.variant_dispositions.specs.declared.disposition.Disposition.{Disposition}
use Rattle.variant_dispositions.specs.declared.disposition.Disposition.TheVariants.{Valid}
use Rattle.variant_dispositions.specs.Kinds.{Kind, is_mapped}
use Rattle.variant_dispositions.specs.Kinds.Kind.{Unmapped, Untyped, Typed}
use Rattle.variant_dispositions.specs.Actions.{default_actions, default_disposition, disposition, first_triggered, has_types, is_of, is_predefined, is_triggered, meets}
use Rattle.variant_dispositions.proofs.MemberLemmas.{all-told, any-told}

-- no kind is a type
abbrev pub HasNoType : List Kind → Type 0
HasNoType kinds = (number : ℕ) → ¬ Contains kinds (Typed number)

of_no_type : (types : ℕ) (kinds : List Kind) (kind : Kind) → HasNoType kinds → Contains kinds kind → is_of types kind ≡ true → ⊥
of_no_type types kinds Unmapped none c h = let clash : false ≡ true = h in cc
of_no_type types kinds Untyped none c h = let clash : false ≡ true = h in cc
of_no_type types kinds (Typed number) none c h = none number c

-- what an action asks of types
types-same : (asked : Option TypeTrigger) (kind : Kind) (kinds : List Kind) → HasNoType (kind ∷ kinds) → has_types asked (kind ∷ kinds) ≡ has_types asked (Unmapped ∷ [])
types-same None kind kinds none = refl
types-same (Some (trigger.Any types)) kind kinds none =
    false_from_ne_true (list_any (is_of types) (kind ∷ kinds)) (λ h. let g = (any-told (is_of types) (kind ∷ kinds)).0 h in of_no_type types (kind ∷ kinds) g.0 none g.1 g.2)
types-same (Some (trigger.All types)) kind kinds none =
    false_from_ne_true (list_any is_mapped (kind ∷ kinds) && list_all (is_of types) (filter is_mapped (kind ∷ kinds)))
    (λ h.
    let parts = and_parts (list_any is_mapped (kind ∷ kinds)) (list_all (is_of types) (filter is_mapped (kind ∷ kinds))) h in
    let g = (any-told is_mapped (kind ∷ kinds)).0 parts.0 in
    of_no_type types (kind ∷ kinds) g.0 none g.1 ((all-told (is_of types) (filter is_mapped (kind ∷ kinds))).0 parts.1 g.0 ((Contains-filter is_mapped (kind ∷ kinds) g.0).1 (g.1, g.2))))
types-same (Some (trigger.Only types)) kind kinds none =
    false_from_ne_true (list_all (is_of types) (kind ∷ kinds)) (λ h. of_no_type types (kind ∷ kinds) kind none (Contains-head kind kinds) ((all-told (is_of types) (kind ∷ kinds)).0 h kind (Contains-head kind kinds)))

module _ (matched : ℕ → Bool) where
  found-same : (actions : List Action) (kind : Kind) (kinds : List Kind) → HasNoType (kind ∷ kinds) → find (is_triggered matched (kind ∷ kinds)) actions ≡ find (is_triggered matched (Unmapped ∷ [])) actions
  found-same [] kind kinds none = refl
  found-same (action ∷ actions) kind kinds none =
      ap (λ (b : Bool). if b && meets matched action.condition then Some action else find (is_triggered matched (kind ∷ kinds)) actions) (types-same action.types kind kinds none)
      ∙ ap (λ (found : Option Action). if is_triggered matched (Unmapped ∷ []) action then Some action else found) (found-same actions kind kinds none)

  first-same : (actions : List Action) (kind : Kind) (kinds : List Kind) → HasNoType (kind ∷ kinds) → first_triggered matched (kind ∷ kinds) actions ≡ first_triggered matched (Unmapped ∷ []) actions
  first-same actions kind kinds none = ap (option_map (λ (action : Action). action.disposition)) (found-same actions kind kinds none)

  filtered : (kind : Kind) (kinds : List Kind) → is_predefined kind ≡ true → filter is_predefined (kind ∷ kinds) ≡ kind ∷ filter is_predefined kinds
  filtered kind kinds is = ap (λ (b : Bool). if b then kind ∷ filter is_predefined kinds else filter is_predefined kinds) is

  filtered-none : (kind : Kind) (kinds : List Kind) → is_predefined kind ≡ true → HasNoType (kind ∷ kinds) → HasNoType (kind ∷ filter is_predefined kinds)
  filtered-none kind kinds is none number c = none number ((Contains-filter is_predefined (kind ∷ kinds) (Typed number)).0 (rw (filtered kind kinds is) c)).0

  default-same : (kind : Kind) (kinds : List Kind) → HasNoType (kind ∷ kinds) → default_disposition matched (kind ∷ kinds) ≡ default_disposition matched (Unmapped ∷ [])
  default-same Unmapped kinds none = first-same default_actions Unmapped (filter is_predefined kinds) (filtered-none Unmapped kinds refl none)
  default-same Untyped kinds none = first-same default_actions Untyped (filter is_predefined kinds) (filtered-none Untyped kinds refl none)
  default-same (Typed number) kinds none = absurd (none number (Contains-head (Typed number) kinds))

  -- the disposition
  pub typeless-same : (actions : List Action) (kind : Kind) (kinds : List Kind) → HasNoType (kind ∷ kinds) → disposition matched actions (kind ∷ kinds) ≡ disposition matched actions (Unmapped ∷ [])
  typeless-same actions kind kinds none =
      ap (λ (first : Option Disposition). unwrap_or first (unwrap_or (default_disposition matched (kind ∷ kinds)) Valid)) (first-same actions kind kinds none)
      ∙ ap (λ (last : Option Disposition). unwrap_or (first_triggered matched (Unmapped ∷ []) actions) (unwrap_or last Valid)) (default-same kind kinds none)
