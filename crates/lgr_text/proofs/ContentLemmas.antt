-- What tokens say of contents.
use Rattle.std.proofs.Common.{◌≡◌, ℕ, suc, ◌+◌, ◌-◌, Bool, true, false, cond, eqb, List, [], ◌∷◌, ◌++◌, length, map, take, drop, Option, Some, None, refl, sym, ap, ◌∙◌, append_assoc, subst, arith}
use Rattle.std.specs.Prelude.{bytes_eq, option_map}
use Rattle.std.specs.List.{prefix_len}
use Rattle.std.proofs.lemmas.Bool.Decides.{nat_tests}
use Rattle.std.proofs.lemmas.List.{length-append, drop-map, take-map}
use Rattle.std.proofs.lemmas.Slice.Eq.{bytes_eq-Decides}
use Rattle.xml_text.specs.Attributes.{Attribute}
use Rattle.xml_text.specs.Tokens
use Rattle.xml_text.specs.Tokens.{Said, Token}
use Rattle.lgr_text.specs.Elements
use Rattle.lgr_text.specs.Elements.{Content, Say, is_blank_text, said_by}
use Rattle.lgr_text.specs.inner.Reading.{BeginsWithText, after_blanks, closes, is_blank_said, is_open}

-- ---- where an element ends

none_more : (o : Option ℕ) → o ≡ option_map (λ n. 0 + n) o
none_more None = refl
none_more (Some n) = ap Some (omega arith)

one_more : (k : ℕ) (o : Option ℕ) → option_map (λ n. n + 1) (option_map (λ n. k + n) o) ≡ option_map (λ n. suc k + n) o
one_more k None = refl
one_more k (Some n) = ap Some (omega arith)

two_more : (k m s : ℕ) (o : Option ℕ) → s ≡ suc (k + suc m) → option_map (λ n. n + 1) (option_map (λ n. k + n) (option_map (λ n. n + 1) (option_map (λ n. m + n) o))) ≡ option_map (λ n. s + n) o
two_more k m s None e = refl
two_more k m s (Some n) e = ap Some (omega arith)

pub not_zero : (o : ℕ) → eqb (o + 1) 0 ≡ false
not_zero o = grind (arith, nat_tests)

pub one_less : (o : ℕ) → o + 1 - 1 ≡ o
one_less o = omega arith

-- the end tag of an element that was opened
closes-end : (o : ℕ) (ts : List Said) → closes (o + 1) (Tokens.Close ∷ ts) ≡ option_map (λ n. n + 1) (closes o ts)
closes-end o ts =
    ap (λ b. cond b (Some 0) (option_map (λ n. n + 1) (closes (o + 1 - 1) ts))) (not_zero o)
    ∙ ap (λ k. option_map (λ n. n + 1) (closes k ts)) (one_less o)

pub closes-content : (p : List ℕ) (c : Content) (o : ℕ) (rest : List Said) → closes o (said_by p c ++ rest) ≡ option_map (λ n. length (said_by p c) + n) (closes o rest)
closes-content p Elements.Nothing o rest = none_more (closes o rest)
closes-content p (Elements.Text text more) o rest = ap (option_map (λ n. n + 1)) (closes-content p more o rest) ∙ one_more (length (said_by p more)) (closes o rest)
closes-content p (Elements.Element name attributes within more) o rest =
    let w = said_by p within in
    let m = said_by p more in
    ap (λ l. option_map (λ n. n + 1) (closes (o + 1) l)) (append_assoc w (Tokens.Close ∷ m) rest)
    ∙ ap (option_map (λ n. n + 1)) (closes-content p within (o + 1) (Tokens.Close ∷ (m ++ rest)))
    ∙ ap (λ t. option_map (λ n. n + 1) (option_map (λ n. length w + n) t)) (closes-end o (m ++ rest))
    ∙ ap (λ t. option_map (λ n. n + 1) (option_map (λ n. length w + n) (option_map (λ n. n + 1) t))) (closes-content p more o rest)
    ∙ two_more (length w) (length m) (suc (length (w ++ Tokens.Close ∷ m))) (closes o rest) (ap suc (length-append w (Tokens.Close ∷ m)))

add_zero : (n : ℕ) → n + 0 ≡ n
add_zero n = omega arith

-- the tokens before the end tag are those of the content
pub closes-here : (p : List ℕ) (c : Content) (rest : List Said) → closes 0 (said_by p c ++ Tokens.Close ∷ rest) ≡ Some (length (said_by p c))
closes-here p c rest = closes-content p c 0 (Tokens.Close ∷ rest) ∙ ap Some (add_zero (length (said_by p c)))

-- ---- the first token

abbrev saids : List Token → List Said
saids tokens = map (λ t. t.said) tokens

pub none-said : (p : List ℕ) (c : Content) → Say p [] c → c ≡ Elements.Nothing
none-said p Elements.Nothing e = refl
none-said p (Elements.Text text more) e = absurd cc
none-said p (Elements.Element name attributes within more) e = absurd cc

-- a text
pub record IsText (p : List ℕ) (text : List ℕ) (ts : List Token) (c : Content) : Type 0 where
  pub more : Content
  pub is : c ≡ Elements.Text text more
  pub follows : Say p ts more

pub text-said : (p : List ℕ) (c : Content) (t : Token) (ts : List Token) (text : List ℕ) → t.said ≡ Tokens.Text text → Say p (t ∷ ts) c → IsText p text ts c
text-said p Elements.Nothing t ts text is e = absurd cc
text-said p (Elements.Text other more) t ts text is e =
    let same : other ≡ text = cc in
    record { more = more; is = ap (λ x. Elements.Text x more) same; follows = cc }
text-said p (Elements.Element name attributes within more) t ts text is e = absurd cc

-- a start tag
pub record IsOpen (p name : List ℕ) (attributes : List Attribute) (ts : List Token) (c : Content) : Type 0 where
  pub local : List ℕ
  pub within : Content
  pub more : Content
  pub is : c ≡ Elements.Element local attributes within more
  pub named : name ≡ p ++ local
  pub follows : saids ts ≡ said_by p within ++ Tokens.Close ∷ said_by p more

pub open-said : (p : List ℕ) (c : Content) (t : Token) (ts : List Token) (name : List ℕ) (attributes : List Attribute) → t.said ≡ Tokens.Open name attributes → Say p (t ∷ ts) c → IsOpen p name attributes ts c
open-said p Elements.Nothing t ts name attributes is e = absurd cc
open-said p (Elements.Text other more) t ts name attributes is e = absurd cc
open-said p (Elements.Element local others within more) t ts name attributes is e =
    let same : others ≡ attributes = cc in
    record { local = local; within = within; more = more; is = ap (λ x. Elements.Element local x within more) same; named = cc; follows = cc }

-- no end tag
pub close-said : (p : List ℕ) (c : Content) (t : Token) (ts : List Token) → t.said ≡ Tokens.Close → Say p (t ∷ ts) c → ⊥
close-said p Elements.Nothing t ts is e = absurd cc
close-said p (Elements.Text other more) t ts is e = absurd cc
close-said p (Elements.Element local others within more) t ts is e = absurd cc

-- ---- blanks at the front

abbrev pub FollowsBlanks : List ℕ → List Token → Content → Type 0
FollowsBlanks p ts c = (d : Content) × Say p ts d × (after_blanks c ≡ after_blanks d)

pub blank-passed : (p : List ℕ) (t : Token) (ts : List Token) (c : Content) → is_blank_said t.said ≡ true → FollowsBlanks p (t ∷ ts) c → FollowsBlanks p ts c
blank-passed p t ts c blank (Elements.Nothing, e, f) = absurd cc
blank-passed p t ts c blank (Elements.Element local others within more, e, f) =
    let said : t.said ≡ Tokens.Open (p ++ local) others = cc in
    let not_blank : is_blank_said t.said ≡ false = ap is_blank_said said in
    absurd cc
blank-passed p t ts c blank (Elements.Text text more, e, f) =
    let said : t.said ≡ Tokens.Text text = cc in
    let blank_text : is_blank_text text ≡ true = sym (ap is_blank_said said) ∙ blank in
    let passed : after_blanks (Elements.Text text more) ≡ after_blanks more = ap (λ b. cond b (after_blanks more) (Elements.Text text more)) blank_text in
    (more, cc, f ∙ passed)

pub blanks-passed : (p : List ℕ) (t : Token) (ts : List Token) (c : Content) → is_blank_said t.said ≡ false → FollowsBlanks p (t ∷ ts) c → Say p (t ∷ ts) (after_blanks c)
blanks-passed p t ts c blank (Elements.Nothing, e, f) = absurd cc
blanks-passed p t ts c blank (Elements.Element local others within more, e, f) = e ∙ ap (said_by p) (sym f)
blanks-passed p t ts c blank (Elements.Text text more, e, f) =
    let said : t.said ≡ Tokens.Text text = cc in
    let blank_text : is_blank_text text ≡ false = sym (ap is_blank_said said) ∙ blank in
    let passed : after_blanks (Elements.Text text more) ≡ Elements.Text text more = ap (λ b. cond b (after_blanks more) (Elements.Text text more)) blank_text in
    e ∙ ap (said_by p) (sym (f ∙ passed))

pub all-passed : (p : List ℕ) (ts : List Token) (c : Content) → length ts ≡ 0 → FollowsBlanks p ts c → Say p ts (after_blanks c)
all-passed p [] c none (Elements.Nothing, e, f) = ap (said_by p) (sym f)
all-passed p [] c none (Elements.Text text more, e, f) = absurd cc
all-passed p [] c none (Elements.Element local others within more, e, f) = absurd cc
all-passed p (t ∷ ts) c none h = absurd (omega arith)

abbrev pub blank_len : List Token → ℕ
blank_len ts = prefix_len (λ t. is_blank_said t.said) ts

one_dropped : (n : ℕ) (t : Token) (ts : List Token) → drop (1 + n) (t ∷ ts) ≡ drop n ts
one_dropped n t ts =
    let e : 1 + n ≡ suc n = omega arith in
    ap (λ (m : ℕ). drop m (t ∷ ts)) e

text-passed : (p : List ℕ) (t : Token) (ts : List Token) (c : Content) (b : Bool) → is_blank_said t.said ≡ b → FollowsBlanks p (t ∷ ts) c
    → (FollowsBlanks p ts c → Say p (drop (blank_len ts) ts) (after_blanks c)) → Say p (drop (blank_len (t ∷ ts)) (t ∷ ts)) (after_blanks c)
text-passed p t ts c true e h rest =
    subst (λ (b : Bool). Say p (drop (cond b (1 + blank_len ts) 0) (t ∷ ts)) (after_blanks c)) (sym e)
    (subst (λ (l : List Token). Say p l (after_blanks c)) (sym (one_dropped (blank_len ts) t ts)) (rest (blank-passed p t ts c e h)))
text-passed p t ts c false e h rest =
    subst (λ (b : Bool). Say p (drop (cond b (1 + blank_len ts) 0) (t ∷ ts)) (after_blanks c)) (sym e) (blanks-passed p t ts c e h)

pub texts-passed : (p : List ℕ) (ts : List Token) (c : Content) → FollowsBlanks p ts c → Say p (drop (blank_len ts) ts) (after_blanks c)
texts-passed p [] c h = all-passed p [] c refl h
texts-passed p (t ∷ ts) c h = text-passed p t ts c (is_blank_said t.said) refl h (λ more. texts-passed p ts c more)

-- ---- the next element

pub none-left : (p : List ℕ) (ts : List Token) (c : Content) → length ts ≡ 0 → Say p ts c → c ≡ Elements.Nothing
none-left p [] c none say = none-said p c say
none-left p (t ∷ ts) c none say = absurd (omega arith)

pub not-open : (p : List ℕ) (c : Content) (t : Token) (ts : List Token) → is_open t.said ≡ false → Say p (t ∷ ts) c → BeginsWithText c
not-open p Elements.Nothing t ts closed e = absurd cc
not-open p (Elements.Text text more) t ts closed e = record { text = text; more = more; is = refl }
not-open p (Elements.Element local others within more) t ts closed e =
    let said : t.said ≡ Tokens.Open (p ++ local) others = cc in
    let opened : is_open t.said ≡ true = ap is_open said in
    absurd cc

pub take-front : {X : Type 0} (xs ys : List X) → take (length xs) (xs ++ ys) ≡ xs
take-front [] ys = refl
take-front (x ∷ xs) ys = ap (λ l. x ∷ l) (take-front xs ys)

pub drop-past : {X : Type 0} (xs ys : List X) (y : X) → drop (suc (length xs)) (xs ++ y ∷ ys) ≡ ys
drop-past [] ys y = refl
drop-past (x ∷ xs) ys y = drop-past xs ys y

-- an element whose end tag is so many tokens further on
module _ (p : List ℕ) (name : List ℕ) (attributes : List Attribute) (ts : List Token) (c : Content) (o : IsOpen p name attributes ts c) where
  closes-then : closes 0 (saids ts) ≡ Some (length (said_by p o.within))
  closes-then = ap (closes 0) o.follows ∙ closes-here p o.within (said_by p o.more)

  pub ends : closes 0 (saids ts) ≡ None → ⊥
  ends e = let both = closes-then in absurd cc

  pub ends-at : (n : ℕ) → Some n ≡ closes 0 (saids ts) → n ≡ length (said_by p o.within)
  ends-at n e = let both : Some n ≡ Some (length (said_by p o.within)) = e ∙ closes-then in cc

  pub says-within : (n : ℕ) → n ≡ length (said_by p o.within) → Say p (take n ts) o.within
  says-within n e =
      sym (take-map (λ (t : Token). t.said) n ts) ∙ ap (take n) o.follows ∙ ap (λ k. take k (said_by p o.within ++ Tokens.Close ∷ said_by p o.more)) e
      ∙ take-front (said_by p o.within) (Tokens.Close ∷ said_by p o.more)

  pub says-after : (n : ℕ) → n ≡ length (said_by p o.within) → Say p (drop (n + 1) ts) o.more
  says-after n e =
      let one : n + 1 ≡ suc (length (said_by p o.within)) = omega arith in
      sym (drop-map (λ (t : Token). t.said) (n + 1) ts) ∙ ap (drop (n + 1)) o.follows ∙ ap (λ k. drop k (said_by p o.within ++ Tokens.Close ∷ said_by p o.more)) one
      ∙ drop-past (said_by p o.within) (said_by p o.more) Tokens.Close

-- ---- the name without the prefix

pub drop-front : {X : Type 0} (xs ys : List X) → drop (length xs) (xs ++ ys) ≡ ys
drop-front [] ys = refl
drop-front (x ∷ xs) ys = drop-front xs ys

pub has-prefix : (p full local : List ℕ) → full ≡ p ++ local → bytes_eq (take (length p) full) p ≡ false → ⊥
has-prefix p full local e differs =
    let front : take (length p) full ≡ p = ap (take (length p)) e ∙ take-front p local in
    let same : bytes_eq (take (length p) full) p ≡ true = (bytes_eq-Decides (take (length p) full) p).1 front in
    absurd cc

pub without-prefix : (p full local name : List ℕ) → full ≡ p ++ local → name ≡ drop (length p) full → local ≡ name
without-prefix p full local name e is = sym (drop-front p local) ∙ ap (drop (length p)) (sym e) ∙ sym is
