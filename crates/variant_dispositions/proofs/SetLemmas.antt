-- Kinds as a set: neither their order nor how often one is there makes a difference.
use Rattle.std.proofs.Common.{◌≡◌, ℕ, Bool, List, [], ◌∷◌, refl, ap, ◌∙◌}
use Rattle.std.specs.Prelude.{◌&&◌, filter, Option, Some, None, option_map, unwrap_or, if◌then◌else◌}
use Rattle.std.specs.List.{find, list_all, list_any}
use Rattle.reading_kinds.proofs.ListMembers.{Contains-filter}
use Rattle.variant_dispositions.specs.declared.action.Action.{Action}
use Rattle.variant_dispositions.specs.declared.action.TypeTrigger.{TypeTrigger}
use Rattle.variant_dispositions.specs.declared.action.TypeTrigger.TheVariants.{Any, All, Only}
use Rattle.variant_dispositions.specs.declared.disposition.Disposition.{Disposition}
use Rattle.variant_dispositions.specs.declared.disposition.Disposition.TheVariants.{Valid}
use Rattle.variant_dispositions.specs.Kinds.{Kind, is_mapped}
use Rattle.variant_dispositions.specs.Actions.{default_actions, first_triggered, has_types, is_of, is_predefined, is_triggered, meets}
use Rattle.variant_dispositions.specs.Laws.{AreTheSame, KindsAreASet}
use Rattle.variant_dispositions.proofs.MemberLemmas.{all-told, any-told, bool_same}

module _ (kinds others : List Kind) (same : AreTheSame kinds others) where
  pub same_any : (p : Kind → Bool) → list_any p kinds ≡ list_any p others
  same_any p = bool_same (list_any p kinds) (list_any p others)
      (λ h. let g = (any-told p kinds).0 h in (any-told p others).1 (g.0, (same g.0).0 g.1, g.2))
      (λ h. let g = (any-told p others).0 h in (any-told p kinds).1 (g.0, (same g.0).1 g.1, g.2))

  pub same_all : (p : Kind → Bool) → list_all p kinds ≡ list_all p others
  same_all p = bool_same (list_all p kinds) (list_all p others)
      (λ h. (all-told p others).1 (λ kind c. (all-told p kinds).0 h kind ((same kind).1 c)))
      (λ h. (all-told p kinds).1 (λ kind c. (all-told p others).0 h kind ((same kind).0 c)))

  pub same_filter : (p : Kind → Bool) → AreTheSame (filter p kinds) (filter p others)
  same_filter p kind = (
    λ c. (let g = (Contains-filter p kinds kind).0 c in (Contains-filter p others kind).1 ((same kind).0 g.0, g.1)),
    λ c. (let g = (Contains-filter p others kind).0 c in (Contains-filter p kinds kind).1 ((same kind).1 g.0, g.1)),
  )

same_types : (kinds others : List Kind) → AreTheSame kinds others → (types : Option TypeTrigger) → has_types types kinds ≡ has_types types others
same_types kinds others same None = refl
same_types kinds others same (Some (Any types)) = same_any kinds others same (is_of types)
same_types kinds others same (Some (All types)) =
    ap (λ (b : Bool). b && list_all (is_of types) (filter is_mapped kinds)) (same_any kinds others same is_mapped)
    ∙ ap (λ (b : Bool). list_any is_mapped others && b) (same_all (filter is_mapped kinds) (filter is_mapped others) (same_filter kinds others same is_mapped) (is_of types))
same_types kinds others same (Some (Only types)) = same_all kinds others same (is_of types)

same_find : (matched : ℕ → Bool) (kinds others : List Kind) → AreTheSame kinds others → (actions : List Action) → find (is_triggered matched kinds) actions ≡ find (is_triggered matched others) actions
same_find matched kinds others same [] = refl
same_find matched kinds others same (action ∷ actions) =
    ap (λ (b : Bool). if b && meets matched action.condition then Some action else find (is_triggered matched kinds) actions) (same_types kinds others same action.types)
    ∙ ap (λ (found : Option Action). if is_triggered matched others action then Some action else found) (same_find matched kinds others same actions)

pub same_first : (matched : ℕ → Bool) (kinds others : List Kind) → AreTheSame kinds others → (actions : List Action) → first_triggered matched kinds actions ≡ first_triggered matched others actions
same_first matched kinds others same actions = ap (λ (found : Option Action). option_map (λ (action : Action). action.disposition) found) (same_find matched kinds others same actions)

pub KindsAreASet-holds : KindsAreASet
KindsAreASet-holds matched actions kinds others same =
    ap (λ (first : Option Disposition). unwrap_or first (unwrap_or (first_triggered matched (filter is_predefined kinds) default_actions) Valid)) (same_first matched kinds others same actions)
    ∙ ap (λ (last : Option Disposition). unwrap_or (first_triggered matched others actions) (unwrap_or last Valid))
    (same_first matched (filter is_predefined kinds) (filter is_predefined others) (same_filter kinds others same is_predefined) default_actions)
