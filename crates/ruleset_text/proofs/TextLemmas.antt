-- Canonical text has the tokens of the pattern.
use Rattle.std.proofs.Common.{◌≡◌, ℕ, Bool, true, false, ◌||◌, ◌&&◌, not, cond, List, [], ◌∷◌, ◌++◌, map, Some, refl, sym, ap, ◌∙◌, append_assoc, append-nil, arith}
use Rattle.std.specs.Prelude.{IsTrue}
use Rattle.std.specs.List.{onto_first, AllByRecursion}
use Rattle.std.proofs.Math.Bool.{or-false}
use Rattle.ruleset_text.specs.declared.token.Token.{Token}
use Rattle.ruleset_text.specs.declared.token.Token.TheVariants as token
use Rattle.label_patterns.specs.Patterns.{Pattern, Point, Set, Any, Start, End, Anchor, Group, Optional, Many, Then, Either}
use Rattle.ruleset_text.specs.Grammar.{Is, Whole, tokens}
use Rattle.ruleset_text.specs.Lexemes.{is_blank, is_mark, is_full_stop, is_word_byte, begins_in_word, begins_in_stops, is_joined, lexemes}
use Rattle.ruleset_text.specs.Canonical.{point_text, set_text, pattern_text, IsWordOf}
use Rattle.ruleset_text.specs.Tokens.{token_of, tokens_in, tokens_of}
use Rattle.ruleset_text.specs.Reading.{pattern_of}
use Rattle.ruleset_text.proofs.PatternLemmas.{spelled_read}

-- each point and each set of the pattern is spelled by a word
abbrev pub HasWords : List (List ℕ) → Pattern → Type 0
HasWords names (Point c) = IsWordOf names (token.Point c) (point_text c)
HasWords names (Set n) = IsWordOf names (token.Set n) (set_text names n)
HasWords names (Group p) = HasWords names p
HasWords names (Optional p) = HasWords names p
HasWords names (Many p) = HasWords names p
HasWords names (Then p q) = HasWords names p × HasWords names q
HasWords names (Either p q) = HasWords names p × HasWords names q
HasWords names Any = Unit {0}
HasWords names Start = Unit {0}
HasWords names End = Unit {0}
HasWords names Anchor = Unit {0}

no_parts : (a b c : Bool) → not (a || b || c) ≡ true → (a ≡ false) × (b ≡ false) × (c ≡ false)
no_parts true b c e = absurd cc
no_parts false true c e = absurd cc
no_parts false false true e = absurd cc
no_parts false false false e = (refl, refl, refl)

in_word : (c : ℕ) (cs : List ℕ) → is_word_byte c ≡ true → lexemes (c ∷ cs) ≡ cond (begins_in_word cs) (onto_first c (lexemes cs)) ((c ∷ []) ∷ lexemes cs)
in_word c cs w =
    let p = no_parts (is_blank c) (is_mark c) (is_full_stop c) w in
    let x : List (List ℕ) = onto_first c (lexemes cs) in
    let y : List (List ℕ) = (c ∷ []) ∷ lexemes cs in
    ap (λ b. cond b (lexemes cs) (cond (is_joined c cs) x y)) p.0
    ∙ ap (λ b. cond (b && begins_in_word cs || is_full_stop c && begins_in_stops cs) x y) w
    ∙ ap (λ b. cond (begins_in_word cs || b && begins_in_stops cs) x y) p.2
    ∙ ap (λ b. cond b x y) (or-false (begins_in_word cs))

pub word_lexeme : (c : ℕ) (cs rest : List ℕ) → AllByRecursion (λ c. IsTrue (is_word_byte c)) (c ∷ cs) → begins_in_word rest ≡ false → lexemes ((c ∷ cs) ++ rest) ≡ (c ∷ cs) ∷ lexemes rest
word_lexeme c [] rest h e = in_word c rest h.0 ∙ ap (λ b. cond b (onto_first c (lexemes rest)) ((c ∷ []) ∷ lexemes rest)) e
word_lexeme c (d ∷ ds) rest h e =
    in_word c (d ∷ ds ++ rest) h.0
    ∙ ap (λ b. cond b (onto_first c (lexemes (d ∷ ds ++ rest))) ((c ∷ []) ∷ lexemes (d ∷ ds ++ rest))) h.1.0
    ∙ ap (onto_first c) (word_lexeme d ds rest h.1 e)

-- what follows neither goes on with a word nor with full stops
abbrev pub IsApart : List ℕ → Type 0
IsApart rest = (begins_in_word rest ≡ false) × (begins_in_stops rest ≡ false)

abbrev pub Goes : List (List ℕ) → Pattern → Type 0
Goes names p = (rest : List ℕ) → IsApart rest → tokens_of names (pattern_text names p ++ rest) ≡ tokens p ++ tokens_of names rest

word_goes : (names : List (List ℕ)) (t : Token) (word rest : List ℕ) → IsWordOf names t word → IsApart rest → tokens_of names (word ++ rest) ≡ t ∷ tokens_of names rest
unfolding tokens_in
word_goes names t [] rest h a = absurd (omega (arith, h.0))
word_goes names t (c ∷ cs) rest h a =
    ap (map (token_of names)) (word_lexeme c cs rest h.1 a.0) ∙ ap (λ x. x ∷ tokens_of names rest) h.2

any_goes : (names : List (List ℕ)) → Goes names Any
unfolding tokens_in
any_goes names rest a =
    ap (λ b. map (token_of names) (cond b (onto_first 46 (lexemes rest)) ((46 ∷ []) ∷ lexemes rest))) a.1

-- a part, then a mark
then_mark : (names : List (List ℕ)) (p : Pattern) (mark : ℕ) (t : Token) (rest : List ℕ) → Goes names p → IsApart (mark ∷ rest) → tokens_of names (mark ∷ rest) ≡ t ∷ tokens_of names rest
    → tokens_of names ((pattern_text names p ++ mark ∷ []) ++ rest) ≡ (tokens p ++ t ∷ []) ++ tokens_of names rest
unfolding tokens_in
then_mark names p mark t rest goes a e =
    ap (tokens_of names) (append_assoc (pattern_text names p) (mark ∷ []) rest)
    ∙ goes (mark ∷ rest) a ∙ ap (λ l. tokens p ++ l) e
    ∙ sym (append_assoc (tokens p) (t ∷ []) (tokens_of names rest))

pub goes : (names : List (List ℕ)) (p : Pattern) → HasWords names p → Goes names p
unfolding tokens_in
goes names (Point c) h rest a = word_goes names (token.Point c) (point_text c) rest h a
goes names (Set n) h rest a = word_goes names (token.Set n) (set_text names n) rest h a
goes names Any h rest a = any_goes names rest a
goes names Start h rest a = refl
goes names End h rest a = refl
goes names Anchor h rest a = word_goes names token.Anchor (95 ∷ []) rest (omega arith, (refl, tt), refl) a
goes names (Group p) h rest a = ap (λ l. token.Open ∷ l) (then_mark names p 41 token.Close rest (goes names p h) (refl, refl) refl)
goes names (Optional p) h rest a = then_mark names p 63 token.Optional rest (goes names p h) (refl, refl) refl
goes names (Many p) h rest a = then_mark names p 42 token.Many rest (goes names p h) (refl, refl) refl
goes names (Then p q) h rest a =
    ap (tokens_of names) (append_assoc (pattern_text names p) (32 ∷ pattern_text names q) rest)
    ∙ goes names p h.0 (32 ∷ (pattern_text names q ++ rest)) (refl, refl)
    ∙ ap (λ l. tokens p ++ l) (goes names q h.1 rest a)
    ∙ sym (append_assoc (tokens p) (tokens q) (tokens_of names rest))
goes names (Either p q) h rest a =
    ap (tokens_of names) (append_assoc (pattern_text names p) (32 ∷ 47 ∷ 32 ∷ pattern_text names q) rest)
    ∙ goes names p h.0 (32 ∷ 47 ∷ 32 ∷ (pattern_text names q ++ rest)) (refl, refl)
    ∙ ap (λ l. tokens p ++ token.Or ∷ l) (goes names q h.1 rest a)
    ∙ sym (append_assoc (tokens p) (token.Or ∷ tokens q) (tokens_of names rest))

pub same_tokens : (names : List (List ℕ)) (p : Pattern) → HasWords names p → tokens_of names (pattern_text names p) ≡ tokens p
unfolding tokens_in
same_tokens names p h = ap (tokens_of names) (sym (append-nil (pattern_text names p))) ∙ goes names p h [] (refl, refl) ∙ append-nil (tokens p)

pub read_back : (names : List (List ℕ)) (p : Pattern) → HasWords names p → Is Whole p → pattern_of (tokens_of names (pattern_text names p)) ≡ Some p
read_back names p h k = spelled_read (tokens_of names (pattern_text names p)) p (k, same_tokens names p h)
