-- Which options have a row after a use.
use Rattle.std.proofs.Common.{◌≡◌, ◌∙◌, ◌||◌, Bool, true, false, List, [], ◌∷◌, ◌++◌, cond, refl, sym, ap}
use Rattle.std.specs.Str.{bytes_eq}
use Rattle.std.proofs.lemmas.Slice.Eq.{bytes_eq-Decides}
use Rattle.clap.specs.Walk.{Row, Text, has_row, more_values, with_values, without}
use Rattle.clap.specs.declared.parser.matches.ValueSource.{ValueSource}
use Rattle.clap.specs.declared.builder.value_parser.Reading.{Reading}

pub or_false : (a : Bool) → a || false ≡ a
or_false true = refl
or_false false = refl

pub or_assoc : (a b e : Bool) → (a || b) || e ≡ a || (b || e)
or_assoc true b e = refl
or_assoc false b e = refl

or_again : (a b : Bool) → a || b ≡ (a || b) || a
or_again true b = refl
or_again false true = refl
or_again false false = refl

-- a test that is there twice counts once
or_twice : (a b : Bool) → b || a ≡ (a || b) || a
or_twice true true = refl
or_twice true false = refl
or_twice false b = refl

same_id : (r a id : Text) → bytes_eq r a ≡ true → bytes_eq r id ≡ bytes_eq a id
same_id r a id is = ap (λ (t : Text). bytes_eq t id) ((bytes_eq-Decides r a).0 is)

-- values that are added to a row
pub row-with_values : (id own : Text) (how : Reading) (s : ValueSource) (values : List Text) (rows : List Row)
    → has_row id (with_values own how s values rows) ≡ has_row id rows || bytes_eq own id
row-with_values id own how s values [] = or_false (bytes_eq own id)
row-with_values id own how s values (r ∷ rows) = step (bytes_eq r.id own) refl (row-with_values id own how s values rows)
  where
    step : (t : Bool) → bytes_eq r.id own ≡ t → has_row id (with_values own how s values rows) ≡ has_row id rows || bytes_eq own id
        → has_row id (cond t (more_values s values r ++ rows) (r ∷ with_values own how s values rows)) ≡ (bytes_eq r.id id || has_row id rows) || bytes_eq own id
    step true same later = or_again (bytes_eq r.id id) (has_row id rows) ∙ ap (λ b. (bytes_eq r.id id || has_row id rows) || b) (same_id r.id own id same)
    step false same later = ap (λ b. bytes_eq r.id id || b) later ∙ sym (or_assoc (bytes_eq r.id id) (has_row id rows) (bytes_eq own id))

row-without : (id own : Text) (rows : List Row) → has_row id (without own rows) || bytes_eq own id ≡ has_row id rows || bytes_eq own id
row-without id own [] = refl
row-without id own (r ∷ rows) = step (bytes_eq r.id own) refl (row-without id own rows)
  where
    step : (t : Bool) → bytes_eq r.id own ≡ t → has_row id (without own rows) || bytes_eq own id ≡ has_row id rows || bytes_eq own id
        → has_row id (cond t ([] ++ rows) (r ∷ without own rows)) || bytes_eq own id ≡ (bytes_eq r.id id || has_row id rows) || bytes_eq own id
    step true same later =
        ap (λ b. has_row id rows || b) (sym (same_id r.id own id same))
        ∙ (or_twice (bytes_eq r.id id) (has_row id rows) ∙ ap (λ b. (bytes_eq r.id id || has_row id rows) || b) (same_id r.id own id same))
    step false same later =
        or_assoc (bytes_eq r.id id) (has_row id (without own rows)) (bytes_eq own id)
        ∙ (ap (λ b. bytes_eq r.id id || b) later ∙ sym (or_assoc (bytes_eq r.id id) (has_row id rows) (bytes_eq own id)))

-- values in place of a row
pub row-replaced : (id own : Text) (how : Reading) (s : ValueSource) (values : List Text) (rows : List Row)
    → has_row id (with_values own how s values (without own rows)) ≡ has_row id rows || bytes_eq own id
row-replaced id own how s values rows = row-with_values id own how s values (without own rows) ∙ row-without id own rows
