-- The options that the code knows are those of the definition.
use Rattle.std.proofs.Common.{◌≡◌, ◌∙◌, ◌==◌, ◌&&◌, ◌||◌, ℕ, Bool, true, false, true≢false, not, List, [], ◌∷◌, Option, Some, None, cond, is_some, length, map, refl, sym, ap, arith}
use Rattle.std.specs.Prelude.{find, option_map}
use Rattle.std.specs.List.{list_all, list_any}
use Rattle.std.specs.Option.{option_map_or}
use Rattle.std.specs.Str.{bytes_eq}
use Rattle.std.proofs.lemmas.Bool.{and_parts}
use Rattle.std.proofs.lemmas.Bool.Decides.{nat_tests}
use Rattle.std.proofs.lemmas.Slice.Eq.{bytes_eq-Decides}
use Rattle.clap.specs.Walk.{Rule, Text, arg_by_long, arg_by_short, has_long, has_short, is_empty, takes_values}
use Rattle.idn2_options.proofs.RowLemmas.{or_false}
use Rattle.idn2_options.specs.inner.Known.{has_letter, letter_of, name_of, shown_by, shown_of, takes_value}
use Rattle.idn2_options.specs.declared.command_line.known.Known.{Known}

-- an option as a row: its name, its letter, and whether it takes a value
abbrev pub Option-row : Type 0
Option-row = Text × Option ℕ × Bool

abbrev pub row_of : Known → Option-row
row_of known = (name_of known, letter_of known, takes_value known)

abbrev pub row : Rule → Option-row
row a = (a.id, a.short, takes_values a)

-- the options among the rules; STRINGS have a place
abbrev pub table : List Rule → List Option-row
table [] = []
table (a ∷ rest) = cond (is_some a.index) (table rest) (row a ∷ table rest)

abbrev shown : Option-row → Text × Bool
shown r = (r.0, r.2)

-- the id of an option is its one name, and it has one letter at most
abbrev pub is_regular : Rule → Bool
is_regular a = option_map_or (λ s. bytes_eq s a.id) a.long false && (is_empty a.aliases && is_empty a.short_aliases)

none_in : {X : Type 0} (p : X → Bool) (xs : List X) → is_empty xs ≡ true → list_any p xs ≡ false
none_in p [] is = refl
none_in p (x ∷ xs) is = let bad : length (x ∷ xs) ≡ 0 = grind (arith, nat_tests) in absurd (omega arith)

long-is : (long : Option Text) (aliases : List Text) (id name : Text) → option_map_or (λ s. bytes_eq s id) long false ≡ true → is_empty aliases ≡ true
    → option_map_or (λ s. bytes_eq s name) long false || list_any (λ alias. bytes_eq alias name) aliases ≡ bytes_eq id name
long-is None aliases id name is none = absurd (true≢false (sym is))
long-is (Some s) aliases id name is none =
    ap (λ t. bytes_eq s name || t) (none_in (λ alias. bytes_eq alias name) aliases none)
    ∙ (or_false (bytes_eq s name) ∙ ap (λ (t : Text). bytes_eq t name) ((bytes_eq-Decides s id).0 is))

in_table : (p : Option-row → Bool) (q : Rule → Bool) (rules : List Rule) → list_all (λ a. is_some a.index || is_regular a) rules ≡ true
    → ((a : Rule) → is_regular a ≡ true → p (row a) ≡ q a)
    → option_map shown (find p (table rules)) ≡ option_map shown_of (find (λ a. not (is_some a.index) && q a) rules)
in_table p q [] all same = refl
in_table p q (a ∷ rest) all same =
    let parts = and_parts (is_some a.index || is_regular a) (list_all (λ a. is_some a.index || is_regular a) rest) all in
    go (is_some a.index) refl parts.0 (in_table p q rest parts.1 same)
  where
    go : (t : Bool) → is_some a.index ≡ t → (is_some a.index || is_regular a) ≡ true
        → option_map shown (find p (table rest)) ≡ option_map shown_of (find (λ a. not (is_some a.index) && q a) rest)
        → option_map shown (find p (cond (is_some a.index) (table rest) (row a ∷ table rest)))
        ≡ option_map shown_of (cond (not (is_some a.index) && q a) (Some a) (find (λ a. not (is_some a.index) && q a) rest))
    go t is either later = rw is (here t (sym (ap (λ b. b || is_regular a) is) ∙ either) later)
      where
        here : (t : Bool) → (t || is_regular a) ≡ true
            → option_map shown (find p (table rest)) ≡ option_map shown_of (find (λ a. not (is_some a.index) && q a) rest)
            → option_map shown (find p (cond t (table rest) (row a ∷ table rest)))
            ≡ option_map shown_of (cond (not t && q a) (Some a) (find (λ a. not (is_some a.index) && q a) rest))
        here true either later = later
        here false regular later =
            first (p (row a)) (q a) (same a regular)
          where
            first : (s u : Bool) → s ≡ u → option_map shown (cond s (Some (row a)) (find p (table rest)))
                ≡ option_map shown_of (cond u (Some a) (find (λ a. not (is_some a.index) && q a) rest))
            first s u e = ap (λ b. option_map shown (cond b (Some (row a)) (find p (table rest)))) e ∙ each u
              where
                each : (u : Bool) → option_map shown (cond u (Some (row a)) (find p (table rest)))
                    ≡ option_map shown_of (cond u (Some a) (find (λ a. not (is_some a.index) && q a) rest))
                each true = refl
                each false = later

as_row : (t : Bool) (k : Known) (found : Option Known) (later : Option Option-row) → option_map shown_by found ≡ option_map shown later
    → option_map shown_by (cond t (Some k) found) ≡ option_map shown (cond t (Some (row_of k)) later)
as_row true k found later same = refl
as_row false k found later same = same

found_as_row : (p : Option-row → Bool) (known : List Known) → option_map shown_by (find (λ k. p (row_of k)) known) ≡ option_map shown (find p (map row_of known))
found_as_row p [] = refl
found_as_row p (k ∷ ks) = as_row (p (row_of k)) k (find (λ k. p (row_of k)) ks) (find p (map row_of ks)) (found_as_row p ks)

pub known-by_name : (rules : List Rule) (known : List Known) (name : Text) → map row_of known ≡ table rules → list_all (λ a. is_some a.index || is_regular a) rules ≡ true
    → option_map shown_by (find (λ k. bytes_eq (name_of k) name) known) ≡ option_map shown_of (arg_by_long rules name)
known-by_name rules known name same regular =
    found_as_row (λ r. bytes_eq r.0 name) known
    ∙ (ap (λ rows. option_map shown (find (λ r. bytes_eq r.0 name) rows)) same
    ∙ in_table (λ r. bytes_eq r.0 name) (λ a. has_long a name) rules regular (λ a is.
    let parts = and_parts (option_map_or (λ s. bytes_eq s a.id) a.long false) (is_empty a.aliases && is_empty a.short_aliases) is in
    let none = and_parts (is_empty a.aliases) (is_empty a.short_aliases) parts.1 in
    sym (long-is a.long a.aliases a.id name parts.0 none.0)))

pub known-by_letter : (rules : List Rule) (known : List Known) (letter : ℕ) → map row_of known ≡ table rules → list_all (λ a. is_some a.index || is_regular a) rules ≡ true
    → option_map shown_by (find (has_letter letter) known) ≡ option_map shown_of (arg_by_short rules letter)
known-by_letter rules known letter same regular =
    found_as_row (λ r. option_map_or (λ own. own == letter) r.1 false) known
    ∙ (ap (λ rows. option_map shown (find (λ r. option_map_or (λ own. own == letter) r.1 false) rows)) same
    ∙ in_table (λ r. option_map_or (λ own. own == letter) r.1 false) (λ a. has_short a letter) rules regular (λ a is.
    let parts = and_parts (option_map_or (λ s. bytes_eq s a.id) a.long false) (is_empty a.aliases && is_empty a.short_aliases) is in
    let none = and_parts (is_empty a.aliases) (is_empty a.short_aliases) parts.1 in
    sym (ap (λ t. option_map_or (λ own. own == letter) a.short false || t) (none_in (λ alias. alias == letter) a.short_aliases none.1)
    ∙ or_false (option_map_or (λ own. own == letter) a.short false))))
