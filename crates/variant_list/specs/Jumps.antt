-- The least of the labels that are no less than a text, and a jump of a cursor to it.
use Rattle.std.specs.Prelude.{◌≡◌, ◌⊎◌, ◌&&◌, ℕ, ◌*◌, ◌≤◌, Bool, not, List, length, take, filter, Contains}
use Rattle.std.specs.Bool.{OnTrue, OnFalse}
use Rattle.std.specs.Ordering.{is_lt}
use Rattle.variant_table.specs.Entries.{TableValue}
use Rattle.variant_list.specs.Labels.{IsBelow, label_cmp}
use Rattle.variant_list.specs.Spelled.{spelled}
use Rattle.variant_list.specs.Variants.{fits_label, in_order}
use Rattle.variant_list.specs.Positions.{Position}

-- v is no less than the text
abbrev pub IsFrom : List ℕ → List ℕ → Type 0
IsFrom text v = (text ≡ v) ⊎ IsBelow text v

-- v is the least label of which P holds that is no less than the text
pub record IsLeastFrom (P : List ℕ → Type 0) (text v : List ℕ) : Type 0 where
  pub holds : P v
  pub «from» : IsFrom text v
  pub least : (w : List ℕ) → P w → IsFrom text w → IsFrom v w

-- no label of which P holds is no less than the text
abbrev pub HasNoneFrom : (List ℕ → Type 0) → List ℕ → Type 0
HasNoneFrom P text = (w : List ℕ) → P w → IsFrom text w → ⊥

-- a candidate, where P holds of what is spelled: a label of at most 63 code points of which it holds
pub record IsCandidate (P : List ℕ → Type 0) (v : List ℕ) : Type 0 where
  pub spelled : P v
  pub short : length v ≤ 63

-- of some labels the candidates that are no less than the text, in label order
abbrev pub candidates_among_from : List (List ℕ) → List ℕ → List (List ℕ)
candidates_among_from labels text = filter (λ v. fits_label v && not (is_lt (label_cmp v text))) (in_order labels)

-- the candidates that are no less than the text, in label order, as a list that computes
abbrev pub candidates_from : TableValue → List ℕ → List ℕ → List (List ℕ)
candidates_from table label text = candidates_among_from (spelled table label) text

-- the cursor went to the least candidate that is no less than the text; or there is none, and it goes on after the
-- first 63 code points of the text
pub record Jumps (old : Position) (text : List ℕ) (is_found : Bool) (new : Position) : Type 0 where
  pub net : new.net ≡ old.net
  pub found : OnTrue is_found (IsLeastFrom (IsCandidate (Contains old.net.spelled)) text new.last)
  pub none : OnFalse is_found (HasNoneFrom (IsCandidate (Contains old.net.spelled)) text)
  pub stays : OnFalse is_found (new.last ≡ take 63 text)
  pub edge_tests : new.edge_tests ≤ 189 * old.net.edges
