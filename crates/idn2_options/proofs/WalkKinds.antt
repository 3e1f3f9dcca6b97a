-- `clap`'s definition names one kind of error at most, where a text is to be shown or a use is wrong; and where a use is wrong, some kind.
use Rattle.std.proofs.Common.{◌≡◌, ◌∙◌, ◌≤◌, ◌==◌, ◌+◌, ◌++◌, ◌&&◌, ◌||◌, ◌⊎◌, inl, ⊎_elim, ℕ, suc, pred, Bool, true, false, true≢false, not, List, [], ◌∷◌, Option, Some, None, cond, is_some, length, map, take, min, nat_lt, refl, sym, ap, ap₂, subst, arith}
use Rattle.std.specs.Prelude.{IsUtf8, fold, option_and_then, slice_get}
use Rattle.std.specs.List.{AllByRecursion, before_first, position_or_len}
use Rattle.std.specs.Option.{option_map_or}
use Rattle.std.specs.Str.{bytes_eq, chars}
use Rattle.std.proofs.Math.Utf8.{encodes, scalar, scalars}
use Rattle.std.proofs.lemmas.Bool.{and_parts}
use Rattle.std.proofs.lemmas.Bool.Decides.{nat_tests}
use Rattle.std.proofs.lemmas.List.{length-append}
use Rattle.std.proofs.lemmas.Str.{IsUtf8-past_char, chars-encodes, encode_ascii, encodes-chars, scalars-chars}
use Rattle.clap.specs.Lexer.{long_of, short_of, short_of_rest, usize_max}
use Rattle.clap.specs.Walk.{Held, Outcome, Row, Rule, Step, Text, Waiting, Walk, after_flag, after_step, arg_by_long, arg_by_short, attached_value, bundle_met, done, flag_met, has_row, idle, is_pending, long_met, long_or_other, most_values, next, option, option_met, option_word, pending_count, plain, plain_word, positional, positional_held, pushed, reacted, settled, settled_rows, short_met, short_or_plain, short_word, subcommand_met, subcommand_or_other, takes_several, takes_values, to_positional, trailing, used, value, walk, walk_from, walked, word_met, nothing_held}
use Rattle.clap.specs.Simple.{Shape}
use Rattle.clap.specs.Kinds.{Kinds, or_else}
use Rattle.clap.specs.Faults.{bundle_fault, flag_word_fault, flags_fault, long_fault, option_fault, other_fault, positional_fault, react_fault, settle_fault, short_fault, step_fault, stray_fault, use_fault, walk_fault, word_fault}
use Rattle.clap.specs.declared.error.ErrorKind.TheVariants as kind
use Rattle.clap.proofs.FaultLemmas.{fault_ends, fault_reads}
use Rattle.clap.proofs.WalkLemmas.{bundle_ends, bundle_reads, rest_fits, shorter}
use Rattle.idn2_options.specs.Uses.{Named, Use, by_letter, by_name, ends_options, has_needless_value, is_unknown, lacks_value, rule_of, uses_in, value_in}
use Rattle.idn2_options.specs.Words.{asks_to_show}
use Rattle.idn2_options.proofs.KindLemmas.{Tells, or_else-assoc, tells-as, tells-or_else, tells-shown}
use Rattle.idn2_options.proofs.OptionLemmas.{IsFlag, IsOption, IsTaken, IsValued, Shows, Suits, as_use, is_option, letter_flag, row-lacking, row-strings, row-taken, same_bytes, tells-lacking, tells-strings, tells-taken}
use Rattle.idn2_options.proofs.RowLemmas.{or_false}

one_more : (n : ℕ) → suc n ≡ 1 + n
one_more n = omega arith

-- ---- words

-- a word in front of `--`, or `--`
front-cons : (word : Text) (words : List Text) → before_first ends_options (word ∷ words) ≡ cond (ends_options word) [] (word ∷ before_first ends_options words)
front-cons word words = go (ends_options word)
  where
    go : (t : Bool) → take (cond (not t) (1 + position_or_len ends_options words) 0) (word ∷ words) ≡ cond t [] (word ∷ before_first ends_options words)
    go true = refl
    go false = ap (λ n. take n (word ∷ words)) (sym (one_more (position_or_len ends_options words)))

-- what follows the dash of a text is a text
rest_is : (rest letters : Text) → short_of_rest rest ≡ Some letters → rest ≡ letters
rest_is [] letters is = absurd (cc)
rest_is (x ∷ xs) letters is = go (x == 45) is
  where
    go : (t : Bool) → cond t None (Some (x ∷ xs)) ≡ Some letters → x ∷ xs ≡ letters
    go true same = absurd (cc)
    go false same = cc

dash_first : (word letters : Text) → short_of word ≡ Some letters → word ≡ 45 ∷ letters
dash_first [] letters is = absurd (cc)
dash_first (b ∷ rest) letters is = go (b == 45) refl is
  where
    go : (t : Bool) → (b == 45) ≡ t → option_and_then short_of_rest (cond t (Some rest) None) ≡ Some letters → b ∷ rest ≡ 45 ∷ letters
    go true e same = let is_dash : b ≡ 45 = grind (arith, nat_tests) in ap₂ (λ (x : ℕ) (xs : Text). x ∷ xs) is_dash (rest_is rest letters same)
    go false e same = absurd (cc)

short_text : (word letters : Text) → IsUtf8 word → short_of word ≡ Some letters → IsUtf8 letters
short_text word letters is_text is =
    IsUtf8-past_char word letters 45 is_text (dash_first word letters is ∙ ap (λ (bytes : Text). bytes ++ letters) (sym (encode_ascii 45 (omega arith))))

-- a dash alone names no option
no_letters : (rest : Text) → short_of_rest rest ≡ Some [] → ⊥
no_letters [] is = cc
no_letters (x ∷ xs) is = go (x == 45) is
  where
    go : (t : Bool) → cond t None (Some (x ∷ xs)) ≡ Some [] → ⊥
    go true same = cc
    go false same = cc

some_letters : (word : Text) → short_of word ≡ Some [] → ⊥
some_letters [] is = cc
some_letters (b ∷ rest) is = go (b == 45) is
  where
    go : (t : Bool) → option_and_then short_of_rest (cond t (Some rest) None) ≡ Some [] → ⊥
    go true same = no_letters rest same
    go false same = cc

longer : (n : ℕ) (values : List Text) (word : Text) → length values ≤ n → length (values ++ word ∷ []) ≤ suc n
longer n values word le = omega (arith, le, length-append values (word ∷ []))

-- ---- whether uses are wrong, by the options that were seen before them

module _ (c : List Rule) where
  abbrev pub wrong : (Text → Bool) → Use → Bool
  wrong seen this =
      is_unknown c this
      || (has_needless_value c this || (lacks_value c this || option_map_or (λ a. seen a.id) (rule_of c this.option) false))

  abbrev pub also : (Text → Bool) → Use → Text → Bool
  also seen this id = seen id || option_map_or (λ a. bytes_eq a.id id) (rule_of c this.option) false

  abbrev pub any_wrong : (Text → Bool) → List Use → Bool
  any_wrong seen [] = false
  any_wrong seen (this ∷ rest) = wrong seen this || any_wrong (also seen this) rest

-- ---- the option whose value is awaited, or that has it and isn't used yet

data Owes : Type 0 where
  nothing : Owes
  strings : List Text → Owes
  given : Rule → Text → Owes
  asked : Rule → Owes

abbrev rests : Waiting → Bool
rests (option id) = false
rests _ = true

module _ (s : Shape) (suits : Suits s) (total : ℕ) where
  abbrev c : List Rule
  c = s.rules

  abbrev again : Bool
  again = s.args_override_self

  -- there are more words than `clap` counts
  abbrev many : Bool
  many = nat_lt usize_max total

  abbrev pend_of : Owes → Option (Text × List Text)
  pend_of nothing = None
  pend_of (strings values) = Some (suits.strings.id, values)
  pend_of (given a v) = Some (a.id, v ∷ [])
  pend_of (asked a) = Some (a.id, [])

  -- after n words
  abbrev IsOwed : ℕ → Owes → Waiting → Type 0
  IsOwed n nothing waiting = rests waiting ≡ true
  IsOwed n (strings values) waiting = (length values ≤ n) × (rests waiting ≡ true)
  IsOwed n (given a v) waiting = IsOption s suits.strings a × IsValued again a × (rests waiting ≡ true)
  IsOwed n (asked a) waiting = IsOption s suits.strings a × IsValued again a × (waiting ≡ option a.id)

  -- whether it is wrong, where a value follows or none does
  abbrev owed : Owes → Bool → (Text → Bool) → Bool
  owed nothing follows seen = false
  owed (strings values) follows seen = false
  owed (given a v) follows seen = as_use (seen a.id) false
  owed (asked a) follows seen = as_use (seen a.id) (not follows)

  -- what is seen then
  abbrev then_seen : Owes → (Text → Bool) → Text → Bool
  then_seen nothing seen id = seen id
  then_seen (strings values) seen id = seen id
  then_seen (given a v) seen id = seen id || bytes_eq a.id id
  then_seen (asked a) seen id = seen id || bytes_eq a.id id

  abbrev seen_in : List Row → Text → Bool
  seen_in rows id = has_row id rows

  abbrev held : List Row → Owes → Held
  held rows o = record { rows = rows; pending = pend_of o; skip = 0 }

  abbrev at : List Row → Owes → Waiting → Bool → Walk
  at rows o waiting is_trailing = record { held = held rows o; waiting = waiting; position = 1; is_trailing = is_trailing; stopped = None }

  abbrev then_rows : List Row → Owes → List Row
  then_rows rows o = settled_rows c (pend_of o) rows

  -- what is told of the options alone
  wrong-agree : (p q : Text → Bool) → ((a : Rule) → IsOption s suits.strings a → p a.id ≡ q a.id) → (this : Use) → wrong c p this ≡ wrong c q this
  wrong-agree p q same this =
      ap (λ b. is_unknown c this || (has_needless_value c this || (lacks_value c this || b))) (go (rule_of c this.option) (is_option s suits many this.option))
    where
      go : (found : Option Rule) → ((a : Rule) → found ≡ Some a → IsOption s suits.strings a) → option_map_or (λ a. p a.id) found false ≡ option_map_or (λ a. q a.id) found false
      go None known = refl
      go (Some a) known = same a (known a refl)

  any-agree : (p q : Text → Bool) → ((a : Rule) → IsOption s suits.strings a → p a.id ≡ q a.id) → (uses : List Use) → any_wrong c p uses ≡ any_wrong c q uses
  any-agree p q same [] = refl
  any-agree p q same (this ∷ rest) =
      ap₂ (λ x y. x || y) (wrong-agree p q same this)
      (any-agree (also c p this) (also c q this) (λ a known. ap (λ b. b || option_map_or (λ r. bytes_eq r.id a.id) (rule_of c this.option) false) (same a known)) rest)

  -- ---- it is settled

  more_than : (n : ℕ) → n ≤ total → nat_lt usize_max n ≡ true → many ≡ true
  more_than n le more = grind (arith, nat_tests)

  settles : (n : ℕ) (rows : List Row) (o : Owes) (waiting : Waiting) → IsOwed n o waiting → n ≤ total
      → Tells many (owed o false (seen_in rows)) (settle_fault c again (held rows o))
  settles n rows nothing waiting is le = refl
  settles n rows (strings values) waiting is le =
      subst (λ (found : Option Rule). Tells many false (option_map_or (λ a. use_fault again a values rows) found [])) (sym suits.by_id)
      (tells-strings s suits many values rows (more_than (length values) (omega (arith, is.0, le))))
  settles n rows (given a v) waiting is le =
      subst (λ (found : Option Rule). Tells many (as_use (has_row a.id rows) false) (option_map_or (λ r. use_fault again r (v ∷ []) rows) found [])) (sym is.0.by_id)
      (tells-taken s suits many a (v ∷ []) rows (is.1.taken v))
  settles n rows (asked a) waiting is le =
      subst (λ (found : Option Rule). Tells many (as_use (has_row a.id rows) true) (option_map_or (λ r. use_fault again r [] rows) found [])) (sym is.0.by_id)
      (tells-lacking s suits many a rows (has_row a.id rows) is.1)

  settled-seen : (n : ℕ) (rows : List Row) (o : Owes) (waiting : Waiting) → IsOwed n o waiting → (a : Rule) → IsOption s suits.strings a
      → has_row a.id (then_rows rows o) ≡ then_seen o (seen_in rows) a.id
  settled-seen n rows nothing waiting is a known = refl
  settled-seen n rows (strings values) waiting is a known = rw suits.by_id (row-strings s suits many values rows a.id known.other)
  settled-seen n rows (given b v) waiting is a known = rw is.0.by_id (row-taken s suits many b (v ∷ []) rows a.id (is.1.taken v))
  settled-seen n rows (asked b) waiting is a known = rw is.0.by_id (row-lacking s suits many b rows a.id is.1)

  -- ---- one use

  told_unknown : (a unknown b d e : Bool) → unknown ≡ true → (a || ((unknown || b) || d)) || e ≡ true
  told_unknown true unknown b d e is = refl
  told_unknown false true b d e is = refl
  told_unknown false false b d e is = absurd (true≢false (sym is))

  told_needless : (a unknown needless b d e : Bool) → needless ≡ true → (a || ((unknown || (needless || b)) || d)) || e ≡ true
  told_needless true unknown needless b d e is = refl
  told_needless false true needless b d e is = refl
  told_needless false false true b d e is = refl
  told_needless false false false b d e is = absurd (true≢false (sym is))

  -- whether a use is wrong of an option that the command line has
  as_use-flag : (seen : Text → Bool) (this : Use) (a : Rule) → rule_of c this.option ≡ Some a → takes_values a ≡ false → this.attached ≡ None
      → wrong c seen this ≡ as_use (seen a.id) false
  as_use-flag seen this a is flag none = rw is (rw (flag, none) refl)

  as_use-valued : (seen : Text → Bool) (this : Use) (a : Rule) (v : Text) → rule_of c this.option ≡ Some a → takes_values a ≡ true → this.attached ≡ Some v
      → wrong c seen this ≡ as_use (seen a.id) false
  as_use-valued seen this a v is takes some = rw is (rw (takes, some) refl)

  as_use-asked : (seen : Text → Bool) (this : Use) (a : Rule) → rule_of c this.option ≡ Some a → takes_values a ≡ true → this.attached ≡ None
      → wrong c seen this ≡ as_use (seen a.id) (not (is_some this.next))
  as_use-asked seen this a is takes none = rw is (rw (takes, none) refl)

  -- a use, and what comes after it
  abbrev with_use : Owes → (Text → Bool) → Use → List Use → Bool
  with_use o seen this uses =
      owed o false seen || (wrong c (then_seen o seen) this || any_wrong c (also c (then_seen o seen) this) uses)

  reacts : (n : ℕ) (rows : List Row) (o : Owes) (waiting : Waiting) → IsOwed n o waiting → n ≤ total
      → (a : Rule) (values : List Text) (this : Use) → rule_of c this.option ≡ Some a
      → ((seen : Text → Bool) → wrong c seen this ≡ as_use (seen a.id) false)
      → IsTaken again a values ⊎ Shows again a values
      → (uses : List Use) (then_kinds : Kinds) → Tells many (any_wrong c (seen_in (used a values (then_rows rows o))) uses) then_kinds
      → Tells many (with_use o (seen_in rows) this uses) (or_else (settle_fault c again (held rows o)) (or_else (use_fault again a values (then_rows rows o)) then_kinds))
  reacts n rows o waiting is le a values this rule used_so acts uses then_kinds later =
      let before : Text → Bool = then_seen o (seen_in rows) in
      let g : Bool = wrong c before this || any_wrong c (also c before this) uses in
      let known = is_option s suits many this.option a rule in
      let inner : Tells many g (or_else (use_fault again a values (then_rows rows o)) then_kinds) = ⊎_elim
      (λ taken.
      tells-or_else many (as_use (has_row a.id (then_rows rows o)) false) (any_wrong c (seen_in (used a values (then_rows rows o))) uses) g
      (use_fault again a values (then_rows rows o)) then_kinds
      (ap₂ (λ x y. x || y)
      (used_so before ∙ ap (λ b. as_use b false) (sym (settled-seen n rows o waiting is a known)))
      (any-agree (also c before this) (seen_in (used a values (then_rows rows o)))
      (λ b other. sym (row-taken s suits many a values (then_rows rows o) b.id taken
      ∙ (ap (λ x. x || bytes_eq a.id b.id) (settled-seen n rows o waiting is b other)
      ∙ ap (λ (found : Option Rule). before b.id || option_map_or (λ r. bytes_eq r.id b.id) found false) (sym rule)))) uses))
      (tells-taken s suits many a values (then_rows rows o) taken) later)
      (λ shows.
      subst (λ (kinds : Kinds). Tells many g (or_else kinds then_kinds)) (sym (shows.fault (then_rows rows o)))
      (tells-shown g many (asks_to_show shows.kind) shows.shows))
      acts in
      tells-or_else many (owed o false (seen_in rows)) g (with_use o (seen_in rows) this uses) (settle_fault c again (held rows o))
      (or_else (use_fault again a values (then_rows rows o)) then_kinds) refl (settles n rows o waiting is le) inner

  -- ---- one word

  abbrev K : Walk → List Text → Kinds
  K w words = or_else (walk_fault s [] w words) (settle_fault c again (fold (walked c []) w words).held)

  abbrev in_front : Bool → List Text → List Text
  in_front true words = []
  in_front false words = before_first ends_options words

  abbrev wrong_in : List Row → Owes → List Text → Bool
  wrong_in rows o front =
      owed o (is_some (value_in front)) (seen_in rows) || any_wrong c (then_seen o (seen_in rows)) (uses_in front)

  abbrev Later : ℕ → List Text → Type 0
  Later n rest = (rows : List Row) (o : Owes) (waiting : Waiting) (is_trailing : Bool) → IsOwed n o waiting
      → Tells many (wrong_in rows o (in_front is_trailing rest)) (K (at rows o waiting is_trailing) rest)

  abbrev took : Walk → Text → List Text → Kinds → Held × Step → Kinds
  took w word rest fault met = or_else (or_else fault (step_fault s 1 met.0 met.1)) (K (after_step c word w met.0 met.1) rest)

  one_word : (rows : List Row) (o : Owes) (waiting : Waiting) (is_trailing : Bool) (word : Text) (rest : List Text) (f : Bool) (fault : Kinds) (met : Held × Step)
      → word_fault s [] is_trailing waiting word (held rows o) ≡ fault → word_met c [] is_trailing waiting 1 word (held rows o) ≡ met
      → Tells many f (took (at rows o waiting is_trailing) word rest fault met) → Tells many f (K (at rows o waiting is_trailing) (word ∷ rest))
  unfolding walk_fault walked
  one_word rows o waiting is_trailing word rest f fault met e m tells =
      let w = at rows o waiting is_trailing in
      let own_met = word_met c [] is_trailing waiting 1 word (held rows o) in
      let own = word_fault s [] is_trailing waiting word (held rows o) in
      let both : Tells many f (took w word rest own own_met) =
      subst (λ (x : Kinds). Tells many f (took w word rest x own_met)) (sym e) (subst (λ (x : Held × Step). Tells many f (took w word rest fault x)) (sym m) tells) in
      subst (Tells many f)
      (sym (or_else-assoc (or_else own (step_fault s 1 own_met.0 own_met.1)) (walk_fault s [] (after_step c word w own_met.0 own_met.1) rest)
      (settle_fault c again (fold (walked c []) (after_step c word w own_met.0 own_met.1) rest).held))) both

  -- a word that belongs to no option
  goes_apart : (n : ℕ) (rows : List Row) (o : Owes) (waiting : Waiting) (is_trailing : Bool) (word : Text) (rest : List Text) (f : Bool)
      → IsOwed n o waiting → n ≤ total → Later (suc n) rest
      → f ≡ owed o false (seen_in rows) || any_wrong c (then_seen o (seen_in rows)) (uses_in (in_front is_trailing rest))
      → Tells many f (or_else (settle_fault c again (held rows o))
      (K (record { held = record { rows = then_rows rows o; pending = Some (suits.strings.id, word ∷ []); skip = 0 }; waiting = positional; position = 1; is_trailing = is_trailing; stopped = None }) rest))
  goes_apart n rows o waiting is_trailing word rest f is le later same =
      let uses = uses_in (in_front is_trailing rest) in
      let after : Bool = any_wrong c (seen_in (then_rows rows o)) uses in
      tells-or_else many (owed o false (seen_in rows)) after f (settle_fault c again (held rows o)) _
      (same ∙ ap (λ b. owed o false (seen_in rows) || b)
      (any-agree (then_seen o (seen_in rows)) (seen_in (then_rows rows o)) (λ b known. sym (settled-seen n rows o waiting is b known)) uses))
      (settles n rows o waiting is le)
      (later (then_rows rows o) (strings (word ∷ [])) positional is_trailing (omega arith, refl))

  value_step : (n : ℕ) (rows : List Row) (o : Owes) (waiting : Waiting) (is_trailing : Bool) (word : Text) (rest : List Text) (f : Bool)
      → IsOwed n o waiting → n ≤ total → Later (suc n) rest
      → f ≡ owed o false (seen_in rows) || any_wrong c (then_seen o (seen_in rows)) (uses_in (in_front is_trailing rest))
      → Tells many f (took (at rows o waiting is_trailing) word rest [] (held rows o, value))
  value_step n rows o waiting is_trailing word rest f is le later same =
      let h = held rows o in
      let to : Bool → Bool → Bool → Kinds = λ pends several ends.
      or_else (cond (pends && several) [] (settle_fault c again h))
      (K (record {
        held = pushed suits.strings.id word (cond (pends && several) h (settled c h));
        waiting = positional;
        position = 1;
        is_trailing = ends;
        stopped = None;
      }) rest) in
      let by : (pends : Bool) → is_pending suits.strings (pend_of o) ≡ pends → Tells many f (to pends true is_trailing) = go o is same in
      let here : Tells many f (to (is_pending suits.strings (pend_of o)) (takes_several suits.strings) (is_trailing || false)) =
      subst (λ (b : Bool). Tells many f (to (is_pending suits.strings (pend_of o)) b (is_trailing || false))) (sym suits.several)
      (subst (λ (b : Bool). Tells many f (to (is_pending suits.strings (pend_of o)) true b)) (sym (or_false is_trailing)) (by (is_pending suits.strings (pend_of o)) refl)) in
      let held_then = positional_held c suits.strings word h in
      let fault = positional_fault c again suits.strings h in
      let ended : Tells many f (or_else fault (K (record { held = held_then; waiting = positional; position = 1; is_trailing = is_trailing || suits.strings.trailing_var_arg; stopped = None }) rest)) =
      subst (λ (b : Bool). Tells many f (or_else fault (K (record { held = held_then; waiting = positional; position = 1; is_trailing = is_trailing || b; stopped = None }) rest))) (sym suits.never_ends) here in
      let all : Tells many f (or_else fault (K (to_positional c (Some suits.strings) word (at rows o waiting is_trailing) h) rest)) =
      subst (λ (b : Bool). Tells many f (or_else fault (K (record { held = held_then; waiting = cond b positional idle; position = cond b 1 (min (1 + 1) usize_max); is_trailing = is_trailing || suits.strings.trailing_var_arg; stopped = None }) rest)))
      (sym suits.multiple) ended in
      subst (λ (found : Option Rule). Tells many f (or_else (option_map_or (λ a. positional_fault c again a h) found (stray_fault s)) (K (to_positional c found word (at rows o waiting is_trailing) h) rest)))
      (sym suits.at) all
    where
      go : (o : Owes) → IsOwed n o waiting
          → f ≡ owed o false (seen_in rows) || any_wrong c (then_seen o (seen_in rows)) (uses_in (in_front is_trailing rest))
          → (pends : Bool) → is_pending suits.strings (pend_of o) ≡ pends
          → Tells many f (or_else (cond (pends && true) [] (settle_fault c again (held rows o)))
          (K (record {
            held = pushed suits.strings.id word (cond (pends && true) (held rows o) (settled c (held rows o)));
            waiting = positional;
            position = 1;
            is_trailing = is_trailing;
            stopped = None;
          }) rest))
      go nothing is same true pends = absurd (true≢false (sym pends))
      go nothing is same false pends = goes_apart n rows nothing waiting is_trailing word rest f is le later same
      go (strings values) is same false pends = absurd (true≢false (sym (same_bytes suits.strings.id) ∙ pends))
      go (strings values) is same true pends =
          tells-as many _ f (K (at rows (strings (values ++ word ∷ [])) positional is_trailing) rest) (sym same)
          (later rows (strings (values ++ word ∷ [])) positional is_trailing (longer n values word is.0, refl))
      go (given a v) is same true pends = absurd (true≢false (sym pends ∙ is.0.apart))
      go (given a v) is same false pends = goes_apart n rows (given a v) waiting is_trailing word rest f is le later same
      go (asked a) is same true pends = absurd (true≢false (sym pends ∙ is.0.apart))
      go (asked a) is same false pends = goes_apart n rows (asked a) waiting is_trailing word rest f is le later same

  -- a word that is the value of the option in front of it
  asked_step : (n : ℕ) (rows : List Row) (a : Rule) (waiting : Waiting) (word : Text) (rest : List Text) (f : Bool)
      → IsOwed n (asked a) waiting → Later (suc n) rest
      → f ≡ as_use (has_row a.id rows) false || any_wrong c (then_seen (asked a) (seen_in rows)) (uses_in (in_front false rest))
      → Tells many f (took (at rows (asked a) waiting false) word rest [] (plain_word c waiting word (held rows (asked a))))
  asked_step n rows a waiting word rest f is later same =
      let h = held rows (asked a) in
      let then_held = pushed a.id word h in
      let one_value : pending_count a then_held.pending ≡ 1 = ap (λ (b : Bool). cond b 1 0) (same_bytes a.id) in
      let full : nat_lt (pending_count a then_held.pending) (most_values a) ≡ false = ap₂ nat_lt one_value is.1.full in
      let here : Tells many f (K (at rows (given a word) idle false) rest) =
      tells-as many _ f (K (at rows (given a word) idle false) rest) (sym same) (later rows (given a word) idle false (is.0, is.1, refl)) in
      let taken : Tells many f (took (at rows (asked a) waiting false) word rest [] ((option_word (Some a) a.id word h).0, next (option_word (Some a) a.id word h).1)) =
      subst (λ (b : Bool). Tells many f (K (record (at rows (asked a) waiting false) { held = then_held; waiting = cond b (option a.id) idle }) rest)) (sym full) here in
      let found : Tells many f (took (at rows (asked a) waiting false) word rest [] (plain_word c (option a.id) word h)) =
      subst (λ (r : Option Rule). Tells many f (took (at rows (asked a) waiting false) word rest [] ((option_word r a.id word h).0, next (option_word r a.id word h).1))) (sym is.0.by_id) taken in
      subst (λ (w : Waiting). Tells many f (took (at rows (asked a) waiting false) word rest [] (plain_word c w word h))) (sym is.2) found

  -- `--`
  dashes_step : (n : ℕ) (rows : List Row) (o : Owes) (waiting : Waiting) (word : Text) (rest : List Text) → IsOwed (suc n) o waiting → Later (suc n) rest
      → Tells many (wrong_in rows o []) (took (at rows o waiting false) word rest [] (held rows o, trailing 1))
  dashes_step n rows o waiting word rest is later = later rows o waiting true is

  -- a name
  long_step : (n : ℕ) (rows : List Row) (o : Owes) (waiting : Waiting) (word : Text) (rest : List Text) (name : Text) (v : Option Text)
      → IsOwed n o waiting → n ≤ total → Later (suc n) rest → (r : Option Rule) → arg_by_long c name ≡ r
      → Tells many (with_use o (seen_in rows) (record { option = by_name name; attached = v; next = value_in (in_front false rest) }) (uses_in (in_front false rest)))
      (took (at rows o waiting false) word rest (long_fault c again r v (held rows o)) (after_flag c waiting word (long_met c r v (held rows o)).0 (long_met c r v (held rows o)).1))
  long_step n rows o waiting word rest name v is le later None e =
      told_unknown (owed o false (seen_in rows)) (not (is_some (arg_by_long c name))) _ _ _ (ap (λ r. not (is_some r)) e)
  long_step n rows o waiting word rest name v is le later (Some a) e =
      ⊎_elim (λ flag. as_flag v flag) (λ valued. as_valued v valued) (is_option s suits many (by_name name) a e).either
    where
      this : Option Text → Use
      this v = record { option = by_name name; attached = v; next = value_in (in_front false rest) }

      f : Option Text → Bool
      f v = with_use o (seen_in rows) (record { option = by_name name; attached = v; next = value_in (in_front false rest) }) (uses_in (in_front false rest))

      both : Option Text → Bool → Kinds
      both v takes = took (at rows o waiting false) word rest
          (cond takes (option_fault c again a v (held rows o)) (cond (is_some v) (kind.TooManyValues ∷ []) (react_fault c again a [] (held rows o))))
          (after_flag c waiting word (cond takes (option_met c a v (held rows o)) (flag_met c a v (held rows o))).0 (cond takes (option_met c a v (held rows o)) (flag_met c a v (held rows o))).1)

      needless : (val : Text) → takes_values a ≡ false → has_needless_value c (record { option = by_name name; attached = Some val; next = value_in (in_front false rest) }) ≡ true
      needless val flag = rw e (rw flag refl)

      as_flag : (v : Option Text) → IsFlag again a → Tells many (f v) (both v (takes_values a))
      as_flag (Some val) flag =
          subst (λ (t : Bool). Tells many (f (Some val)) (both (Some val) t)) (sym flag.takes)
          (told_needless (owed o false (seen_in rows)) (is_unknown c (this (Some val))) (has_needless_value c (this (Some val))) _ _ _ (needless val flag.takes))
      as_flag None flag =
          let then_kinds = K (at (used a [] (then_rows rows o)) nothing idle false) rest in
          subst (λ (t : Bool). Tells many (f None) (both None t)) (sym flag.takes)
          (subst (Tells many (f None))
          (sym (or_else-assoc (react_fault c again a [] (held rows o)) [] then_kinds
          ∙ or_else-assoc (settle_fault c again (held rows o)) (use_fault again a [] (then_rows rows o)) then_kinds))
          (reacts n rows o waiting is le a [] (this None) e (λ seen. as_use-flag seen (this None) a e flag.takes refl) flag.acts (uses_in (in_front false rest)) then_kinds
          (later (used a [] (then_rows rows o)) nothing idle false refl)))

      as_valued : (v : Option Text) → IsValued again a → Tells many (f v) (both v (takes_values a))
      as_valued (Some val) valued =
          let then_kinds = K (at (used a (val ∷ []) (then_rows rows o)) nothing idle false) rest in
          subst (λ (t : Bool). Tells many (f (Some val)) (both (Some val) t)) (sym valued.takes)
          (subst (Tells many (f (Some val)))
          (sym (or_else-assoc (react_fault c again a (val ∷ []) (held rows o)) [] then_kinds
          ∙ or_else-assoc (settle_fault c again (held rows o)) (use_fault again a (val ∷ []) (then_rows rows o)) then_kinds))
          (reacts n rows o waiting is le a (val ∷ []) (this (Some val)) e (λ seen. as_use-valued seen (this (Some val)) a val e valued.takes refl) (inl (valued.taken val))
          (uses_in (in_front false rest)) then_kinds (later (used a (val ∷ []) (then_rows rows o)) nothing idle false refl)))
      as_valued None valued =
          let before : Text → Bool = then_seen o (seen_in rows) in
          let uses = uses_in (in_front false rest) in
          let after : Bool = wrong c before (this None) || any_wrong c (also c before (this None)) uses in
          let then_kinds = K (at (then_rows rows o) (asked a) (option a.id) false) rest in
          let known = is_option s suits many (by_name name) a e in
          subst (λ (t : Bool). Tells many (f None) (both None t)) (sym valued.takes)
          (subst (Tells many (f None)) (sym (or_else-assoc (settle_fault c again (held rows o)) [] then_kinds))
          (tells-or_else many (owed o false (seen_in rows)) after (f None) (settle_fault c again (held rows o)) then_kinds refl
          (settles n rows o waiting is le)
          (tells-as many (wrong_in (then_rows rows o) (asked a) (in_front false rest)) after then_kinds
          (ap₂ (λ x y. x || y)
          (ap (λ b. as_use b (not (is_some (value_in (in_front false rest))))) (settled-seen n rows o waiting is a known)
          ∙ sym (as_use-asked before (this None) a e valued.takes refl))
          (any-agree (then_seen (asked a) (seen_in (then_rows rows o))) (also c before (this None))
          (λ b other. ap (λ x. x || bytes_eq a.id b.id) (settled-seen n rows o waiting is b other)
          ∙ ap (λ (found : Option Rule). before b.id || option_map_or (λ r. bytes_eq r.id b.id) found false) (sym e)) uses))
          (later (then_rows rows o) (asked a) (option a.id) false (known, valued, refl)))))

  -- ---- letters

  abbrev by_its_letter : ℕ → Option Text → Use
  by_its_letter x follows = record { option = by_letter x; attached = None; next = follows }

  letter_step : (n : ℕ) (rows : List Row) (o : Owes) (waiting : Waiting) → IsOwed n o waiting → n ≤ total
      → (x : ℕ) (rest : Text) (follows : Option Text) (uses : List Use) (fault : Held → Kinds) (met : Held → Held × Outcome) (then_kinds : Held × Outcome → Kinds)
      → ((later : List Row) → Tells many (any_wrong c (seen_in later) uses) (or_else (fault (held later nothing)) (then_kinds (met (held later nothing)))))
      → (r : Option Rule) → arg_by_short c x ≡ r
      → Tells many (with_use o (seen_in rows) (by_its_letter x follows) uses) (or_else (short_fault c again r rest (held rows o) fault) (then_kinds (short_met c r rest (held rows o) met)))
  letter_step n rows o waiting is le x rest follows uses fault met then_kinds later None e =
      told_unknown (owed o false (seen_in rows)) (not (is_some (arg_by_short c x))) _ _ _ (ap (λ r. not (is_some r)) e)
  letter_step n rows o waiting is le x rest follows uses fault met then_kinds later (Some a) e =
      let flag = letter_flag s suits many x a e in
      let h = held rows o in
      let after = held (used a [] (then_rows rows o)) nothing in
      let f = with_use o (seen_in rows) (by_its_letter x follows) uses in
      let settle = settle_fault c again h in
      let use_kinds = use_fault again a [] (then_rows rows o) in
      let both : Bool → Kinds = λ takes.
      or_else (cond takes (option_fault c again a (attached_value rest) h) (or_else (react_fault c again a [] h) (fault (reacted c a [] h))))
      (then_kinds (cond takes (option_met c a (attached_value rest) h) (met (reacted c a [] h)))) in
      subst (λ (t : Bool). Tells many f (both t)) (sym flag.takes)
      (subst (Tells many f)
      (sym (or_else-assoc (or_else settle use_kinds) (fault after) (then_kinds (met after)) ∙ or_else-assoc settle use_kinds (or_else (fault after) (then_kinds (met after)))))
      (reacts n rows o waiting is le a [] (by_its_letter x follows) e (λ seen. as_use-flag seen (by_its_letter x follows) a e flag.takes refl) flag.acts uses
      (or_else (fault after) (then_kinds (met after))) (later (used a [] (then_rows rows o)))))

  abbrev letter_uses : List ℕ → Option Text → List Use
  letter_uses letters follows =
      map (λ (named : Named × Option Text). record { option = named.0; attached = named.1; next = follows }) (map (λ letter. (by_letter letter, None)) letters)

  module _ (follows : Option Text) (uses : List Use) (then_kinds : Held × Outcome → Kinds)
      (goes_on : (rows : List Row) → Tells many (any_wrong c (seen_in rows) uses) (then_kinds (held rows nothing, done))) where
    more_letters : (k : ℕ) (letters : List ℕ) (rows : List Row) → scalars letters ≡ true → length (encodes letters) ≤ k
        → Tells many (any_wrong c (seen_in rows) (letter_uses letters follows ++ uses))
        (or_else (flags_fault c again k (encodes letters) 0 (held rows nothing)) (then_kinds (bundle_met c k (encodes letters) 0 done (held rows nothing))))
    more_letters k [] rows are fits =
        let end : None ≡ slice_get (chars (encodes [])) 0 = ap (λ cs. slice_get cs 0) (sym (chars-encodes [] refl)) in
        subst (λ (kinds : Kinds). Tells many (any_wrong c (seen_in rows) uses) (or_else kinds (then_kinds (bundle_met c k (encodes []) 0 done (held rows nothing)))))
        (fault_ends c again k (encodes []) 0 (held rows nothing) end)
        (subst (λ (met : Held × Outcome). Tells many (any_wrong c (seen_in rows) uses) (then_kinds met)) (bundle_ends c k (encodes []) 0 done (held rows nothing) end) (goes_on rows))
    more_letters k (x ∷ xs) rows are fits =
        let rest : scalars xs ≡ true = (and_parts (scalar x) (scalars xs) are).1 in
        let first : Some x ≡ slice_get (chars (encodes (x ∷ xs))) 0 = ap (λ cs. slice_get cs 0) (sym (chars-encodes (x ∷ xs) are)) in
        let f = any_wrong c (seen_in rows) (letter_uses (x ∷ xs) follows ++ uses) in
        let h = held rows nothing in
        subst (λ (kinds : Kinds). Tells many f (or_else kinds (then_kinds (bundle_met c k (encodes (x ∷ xs)) 0 done h))))
        (fault_reads c again x (encodes (x ∷ xs)) (encodes xs) first refl k 0 h (shorter c x (encodes (x ∷ xs)) (encodes xs) first refl k fits) (omega arith))
        (subst (λ (met : Held × Outcome). Tells many f (or_else (short_fault c again (arg_by_short c x) (encodes xs) h (flags_fault c again (pred k) (encodes xs) 0)) (then_kinds met)))
        (bundle_reads c x (encodes (x ∷ xs)) (encodes xs) first refl k 0 done h fits (omega arith))
        (letter_step 0 rows nothing idle refl (omega arith) x (encodes xs) follows (letter_uses xs follows ++ uses) (flags_fault c again (pred k) (encodes xs) 0)
        (bundle_met c (pred k) (encodes xs) 0 done) then_kinds
        (λ later. more_letters (pred k) xs later rest (rest_fits c x (encodes (x ∷ xs)) (encodes xs) first refl k fits)) (arg_by_short c x) refl))

    first_letters : (n : ℕ) (rows : List Row) (o : Owes) (waiting : Waiting) → IsOwed n o waiting → n ≤ total
        → (k x : ℕ) (xs : List ℕ) → scalars (x ∷ xs) ≡ true → length (encodes (x ∷ xs)) ≤ k
        → Tells many (with_use o (seen_in rows) (by_its_letter x follows) (letter_uses xs follows ++ uses))
        (or_else (flags_fault c again k (encodes (x ∷ xs)) 0 (held rows o)) (then_kinds (bundle_met c k (encodes (x ∷ xs)) 0 plain (held rows o))))
    first_letters n rows o waiting is le k x xs are fits =
        let rest : scalars xs ≡ true = (and_parts (scalar x) (scalars xs) are).1 in
        let first : Some x ≡ slice_get (chars (encodes (x ∷ xs))) 0 = ap (λ cs. slice_get cs 0) (sym (chars-encodes (x ∷ xs) are)) in
        let f = with_use o (seen_in rows) (by_its_letter x follows) (letter_uses xs follows ++ uses) in
        let h = held rows o in
        subst (λ (kinds : Kinds). Tells many f (or_else kinds (then_kinds (bundle_met c k (encodes (x ∷ xs)) 0 plain h))))
        (fault_reads c again x (encodes (x ∷ xs)) (encodes xs) first refl k 0 h (shorter c x (encodes (x ∷ xs)) (encodes xs) first refl k fits) (omega arith))
        (subst (λ (met : Held × Outcome). Tells many f (or_else (short_fault c again (arg_by_short c x) (encodes xs) h (flags_fault c again (pred k) (encodes xs) 0)) (then_kinds met)))
        (bundle_reads c x (encodes (x ∷ xs)) (encodes xs) first refl k 0 plain h fits (omega arith))
        (letter_step n rows o waiting is le x (encodes xs) follows (letter_uses xs follows ++ uses) (flags_fault c again (pred k) (encodes xs) 0)
        (bundle_met c (pred k) (encodes xs) 0 done) then_kinds
        (λ later. more_letters (pred k) xs later rest (rest_fits c x (encodes (x ∷ xs)) (encodes xs) first refl k fits)) (arg_by_short c x) refl))

  short_step : (n : ℕ) (rows : List Row) (o : Owes) (waiting : Waiting) (word : Text) (rest : List Text) (letters : Text)
      → IsOwed n o waiting → n ≤ total → Later (suc n) rest → IsUtf8 letters → (points : List ℕ) → chars letters ≡ points → (points ≡ [] → ⊥)
      → Tells many (owed o false (seen_in rows)
      || any_wrong c (then_seen o (seen_in rows)) (letter_uses points (value_in (in_front false rest)) ++ uses_in (in_front false rest)))
      (took (at rows o waiting false) word rest (bundle_fault c again letters (held rows o)) (short_word c waiting word letters (held rows o)))
  short_step n rows o waiting word rest letters is le later is_text [] same some = absurd (some refl)
  short_step n rows o waiting word rest letters is le later is_text (x ∷ xs) same some =
      let w = at rows o waiting false in
      let h = held rows o in
      let front = in_front false rest in
      let f = with_use o (seen_in rows) (by_its_letter x (value_in front)) (letter_uses xs (value_in front) ++ uses_in front) in
      let then_kinds : Held × Outcome → Kinds = λ met.
      or_else (step_fault s 1 (after_flag c waiting word met.0 met.1).0 (after_flag c waiting word met.0 met.1).1)
      (K (after_step c word w (after_flag c waiting word met.0 met.1).0 (after_flag c waiting word met.0 met.1).1) rest) in
      let spelled : encodes (x ∷ xs) ≡ letters = ap encodes (sym same) ∙ encodes-chars letters is_text in
      let are : scalars (x ∷ xs) ≡ true = ap scalars (sym same) ∙ scalars-chars letters is_text in
      let read : Tells many f (or_else (flags_fault c again (length letters) letters 0 h) (then_kinds (bundle_met c (length letters) letters 0 plain h))) =
      subst (λ (t : Text). Tells many f (or_else (flags_fault c again (length letters) t 0 h) (then_kinds (bundle_met c (length letters) t 0 plain h)))) spelled
      (first_letters (value_in front) (uses_in front) then_kinds (λ after. later after nothing idle false refl) n rows o waiting is le (length letters) x xs are
      (subst (λ (t : Text). length t ≤ length letters) (sym spelled) (omega arith))) in
      subst (Tells many f)
      (sym (or_else-assoc (flags_fault c again (length letters) letters 0 h) _ _)) read

  -- ---- any word

  plain_value : (waiting : Waiting) (word : Text) (h : Held) → rests waiting ≡ true → plain_word c waiting word h ≡ (h, value)
  plain_value idle word h is = refl
  plain_value positional word h is = refl
  plain_value (option id) word h is = absurd (true≢false (sym is))

  -- whether a use by a word, or one after it, is wrong
  abbrev wrong_by_word : List Row → Owes → Text → List Text → Option (Text × Option Text) → Option Text → Bool
  wrong_by_word rows o word front found letters =
      owed o (is_some (cond {A = Option Text} (is_some found || is_some letters) None (Some word))) (seen_in rows)
      || any_wrong c (then_seen o (seen_in rows)) (map (λ (named : Named × Option Text). record { option = named.0; attached = named.1; next = value_in front })
      (option_map_or (λ parts. (by_name parts.0, parts.1) ∷ []) found (option_map_or (λ letters. map (λ letter. (by_letter letter, None)) (chars letters)) letters []))
      ++ uses_in front)

  plain_step : (n : ℕ) (rows : List Row) (o : Owes) (waiting : Waiting) (word : Text) (rest : List Text) → IsOwed n o waiting → n ≤ total → Later (suc n) rest
      → Tells many (wrong_by_word rows o word (in_front false rest) None None) (took (at rows o waiting false) word rest [] (plain_word c waiting word (held rows o)))
  plain_step n rows nothing waiting word rest is le later =
      subst (λ (met : Held × Step). Tells many (wrong_by_word rows nothing word (in_front false rest) None None) (took (at rows nothing waiting false) word rest [] met))
      (sym (plain_value waiting word (held rows nothing) is))
      (value_step n rows nothing waiting false word rest (wrong_by_word rows nothing word (in_front false rest) None None) is le later refl)
  plain_step n rows (strings values) waiting word rest is le later =
      subst (λ (met : Held × Step). Tells many (wrong_by_word rows (strings values) word (in_front false rest) None None) (took (at rows (strings values) waiting false) word rest [] met))
      (sym (plain_value waiting word (held rows (strings values)) is.1))
      (value_step n rows (strings values) waiting false word rest (wrong_by_word rows (strings values) word (in_front false rest) None None) is le later refl)
  plain_step n rows (given a v) waiting word rest is le later =
      subst (λ (met : Held × Step). Tells many (wrong_by_word rows (given a v) word (in_front false rest) None None) (took (at rows (given a v) waiting false) word rest [] met))
      (sym (plain_value waiting word (held rows (given a v)) is.2))
      (value_step n rows (given a v) waiting false word rest (wrong_by_word rows (given a v) word (in_front false rest) None None) is le later refl)
  plain_step n rows (asked a) waiting word rest is le later =
      asked_step n rows a waiting word rest (wrong_by_word rows (asked a) word (in_front false rest) None None) is later refl

  some_points : (letters : Text) → IsUtf8 letters → (letters ≡ [] → ⊥) → chars letters ≡ [] → ⊥
  some_points letters is_text some none = some (sym (encodes-chars letters is_text) ∙ ap encodes none)

  unnamed_step : (n : ℕ) (rows : List Row) (o : Owes) (waiting : Waiting) (word : Text) (rest : List Text) → IsOwed n o waiting → n ≤ total → Later (suc n) rest
      → IsUtf8 word → (letters : Option Text) → short_of word ≡ letters
      → Tells many (wrong_by_word rows o word (in_front false rest) None letters)
      (took (at rows o waiting false) word rest (option_map_or (λ flags. bundle_fault c again flags (held rows o)) letters []) (short_or_plain c waiting word letters (held rows o)))
  unnamed_step n rows o waiting word rest is le later is_text None same = plain_step n rows o waiting word rest is le later
  unnamed_step n rows o waiting word rest is le later is_text (Some letters) same =
      let own = short_text word letters is_text same in
      short_step n rows o waiting word rest letters is le later own (chars letters) refl
      (some_points letters own (λ none. some_letters word (same ∙ ap (λ (t : Text). Some t) none)))

  named_step : (n : ℕ) (rows : List Row) (o : Owes) (waiting : Waiting) (word : Text) (rest : List Text) → IsOwed n o waiting → n ≤ total → Later (suc n) rest
      → IsUtf8 word → (found : Option (Text × Option Text))
      → Tells many (wrong_by_word rows o word (in_front false rest) found (short_of word))
      (took (at rows o waiting false) word rest (flag_word_fault c again found word (held rows o)) (long_or_other c waiting word found (held rows o)))
  named_step n rows o waiting word rest is le later is_text (Some p) = long_step n rows o waiting word rest p.0 p.1 is le later (arg_by_long c p.0) refl
  named_step n rows o waiting word rest is le later is_text None = unnamed_step n rows o waiting word rest is le later is_text (short_of word) refl

  -- the command has no subcommands
  no_subcommand : (waiting : Waiting) (word : Text) → subcommand_met [] waiting word ≡ None
  no_subcommand idle word = refl
  no_subcommand (option id) word = refl
  no_subcommand positional word = refl

  still_owed : (n : ℕ) (o : Owes) (waiting : Waiting) → IsOwed n o waiting → IsOwed (suc n) o waiting
  still_owed n nothing waiting is = is
  still_owed n (strings values) waiting is = (omega (arith, is.0), is.1)
  still_owed n (given a v) waiting is = is
  still_owed n (asked a) waiting is = is

  front_step : (n : ℕ) (rows : List Row) (o : Owes) (waiting : Waiting) (word : Text) (rest : List Text) → IsOwed n o waiting → n ≤ total → Later (suc n) rest
      → IsUtf8 word → (ends : Bool)
      → Tells many (wrong_in rows o (cond ends [] (word ∷ in_front false rest)))
      (took (at rows o waiting false) word rest (cond ends [] (flag_word_fault c again (long_of word) word (held rows o)))
      (cond ends (held rows o, trailing 1) (long_or_other c waiting word (long_of word) (held rows o))))
  front_step n rows o waiting word rest is le later is_text true = dashes_step n rows o waiting word rest (still_owed n o waiting is) later
  front_step n rows o waiting word rest is le later is_text false = named_step n rows o waiting word rest is le later is_text (long_of word)

  tells-walk : (n : ℕ) (rows : List Row) (o : Owes) (waiting : Waiting) (is_trailing : Bool) (words : List Text) → IsOwed n o waiting
      → AllByRecursion IsUtf8 words → n + length words ≤ total
      → Tells many (wrong_in rows o (in_front is_trailing words)) (K (at rows o waiting is_trailing) words)
  unfolding walk_fault
  tells-walk n rows o waiting true [] is texts le =
      tells-as many (owed o false (seen_in rows)) _ (settle_fault c again (held rows o)) (sym (or_false _)) (settles n rows o waiting is (omega (arith, le)))
  tells-walk n rows o waiting false [] is texts le =
      tells-as many (owed o false (seen_in rows)) _ (settle_fault c again (held rows o)) (sym (or_false _)) (settles n rows o waiting is (omega (arith, le)))
  tells-walk n rows o waiting true (word ∷ rest) is texts le =
      one_word rows o waiting true word rest _ [] (held rows o, value) refl refl
      (value_step n rows o waiting true word rest _ is (omega (arith, le))
      (λ rows o waiting is_trailing is. tells-walk (suc n) rows o waiting is_trailing rest is texts.1 (omega (arith, le))) refl)
  tells-walk n rows o waiting false (word ∷ rest) is texts le =
      let h = held rows o in
      one_word rows o waiting false word rest _
      (cond (ends_options word) [] (flag_word_fault c again (long_of word) word h))
      (cond (ends_options word) (h, trailing 1) (long_or_other c waiting word (long_of word) h))
      (ap (λ o. other_fault s o word h) (no_subcommand waiting word)) (ap (λ o. subcommand_or_other c o waiting 1 word h) (no_subcommand waiting word))
      (subst (λ (front : List Text). Tells many (wrong_in rows o front) (took (at rows o waiting false) word rest
      (cond (ends_options word) [] (flag_word_fault c again (long_of word) word h))
      (cond (ends_options word) (h, trailing 1) (long_or_other c waiting word (long_of word) h))))
      (sym (front-cons word rest))
      (front_step n rows o waiting word rest is (omega (arith, le))
      (λ rows o waiting is_trailing is. tells-walk (suc n) rows o waiting is_trailing rest is texts.1 (omega (arith, le))) texts.0 (ends_options word)))

  pub tells-words : (words : List Text) → AllByRecursion IsUtf8 words → length words ≤ total
      → Tells many (any_wrong c (λ id. false) (uses_in (before_first ends_options words)))
      (or_else (walk_fault s [] (walk_from nothing_held) words) (settle_fault c again (walk c [] nothing_held words).held))
  tells-words words texts le = tells-walk 0 [] nothing idle false words refl texts (omega (arith, le))
