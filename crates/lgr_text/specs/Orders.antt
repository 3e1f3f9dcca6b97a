-- In which order the parts of a rule stand (RFC 7940, sections 6.3 and 6.4, and the schema of its appendix D).
use Rattle.std.specs.Prelude.{Bool, true, false, ◌&&◌, ◌||◌, nat_le, Option, None, List, [], ◌∷◌, length, map}
use Rattle.std.specs.Prelude.{if◌then◌else◌}
use Rattle.std.specs.List.{list_all}
use Rattle.lgr_text.specs.Nested.{nested}
use Rattle.lgr_text.specs.Records.{Part, Then, Choice, part}
use Rattle.lgr_text.specs.declared.orders.Item as held
use Rattle.lgr_text.specs.declared.orders.Order.{Order}
use Rattle.lgr_text.specs.declared.orders.Order.TheVariants.{OfRule, OfLook, OfChoice}
use Rattle.lgr_text.specs.declared.orders.Role.{Role}
use Rattle.lgr_text.specs.declared.orders.Role.TheVariants.{Matcher, Start, End, Anchor, LookBehind, LookAhead}

-- a part of a rule, and what it is there
pub record Item : Type 0 where
  pub role : Role
  pub part : Part

abbrev pub item : held.Item → Item
item i = record { role = i.role; part = part i.part }

-- nothing follows
abbrev pub is_last : List Role → Bool
is_last [] = true
is_last (r ∷ rs) = false

-- what matches, one after the other, and then nothing more or the end of a label
abbrev pub are_up_to_end : List Role → Bool
are_up_to_end [] = true
are_up_to_end (Matcher ∷ rs) = are_up_to_end rs
are_up_to_end (End ∷ rs) = is_last rs
are_up_to_end (r ∷ rs) = false

-- the same, which the start of a label may precede; at least one of all these (section 6.3.8)
abbrev pub are_operators : List Role → Bool
are_operators [] = false
are_operators (Start ∷ rs) = are_up_to_end rs
are_operators (r ∷ rs) = are_up_to_end (r ∷ rs)

-- the anchor, and what looks behind or ahead of it (section 6.4)
abbrev pub are_about_place : List Role → Bool
are_about_place (Anchor ∷ []) = true
are_about_place (LookBehind ∷ Anchor ∷ []) = true
are_about_place (Anchor ∷ LookAhead ∷ []) = true
are_about_place (LookBehind ∷ Anchor ∷ LookAhead ∷ []) = true
are_about_place rs = false

-- what matches, and the start or the end of a label
abbrev pub is_alternative : Role → Bool
is_alternative Matcher = true
is_alternative Start = true
is_alternative End = true
is_alternative r = false

-- in a rule (section 6.3.1), in what looks behind or ahead (section 6.4.2), and in a choice, which is of two or more
-- (section 6.3.5)
abbrev pub admits : Order → List Role → Bool
admits OfRule rs = are_operators rs || are_about_place rs
admits OfLook rs = are_operators rs
admits OfChoice rs = nat_le 2 (length rs) && list_all is_alternative rs

-- one after the other, or one of the two
abbrev pub together : Order → Part → Part → Part
together OfRule = Then
together OfLook = Then
together OfChoice = Choice

-- what parts in this order say
abbrev pub in_order : Order → List Item → Option Part
in_order order items =
    if admits order (map (λ i. i.role) items) then nested (together order) (map (λ i. i.part) items) else None
