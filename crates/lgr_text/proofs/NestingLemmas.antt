-- Tokens that nest say a content, and those that say one nest.
use Rattle.std.proofs.Common.{◌≡◌, ℕ, ◌+◌, ◌-◌, Bool, true, false, eqb, List, [], ◌∷◌, ◌++◌, cond, length, map, take, drop, take-append-drop, refl, sym, ap, ◌∙◌, append_assoc, arith}
use Rattle.std.proofs.lemmas.Bool.Decides.{nat_tests}
use Rattle.std.proofs.lemmas.List.{append-nil}
use Rattle.std.proofs.lemmas.Slice.Eq.{bytes_eq-Decides}
use Rattle.xml_text.specs.Attributes.{Attribute}
use Rattle.xml_text.specs.Tokens
use Rattle.xml_text.specs.Tokens.{Said, Token}
use Rattle.lgr_text.specs.Elements
use Rattle.lgr_text.specs.Elements.{Content, Say, said_by}
use Rattle.lgr_text.specs.inner.Nesting.{has_prefix, nests}
use Rattle.lgr_text.proofs.ContentLemmas.{not_zero, one_less, take-front}

prefixed : (p name : List ℕ) → has_prefix p (p ++ name) ≡ true
prefixed p name = (bytes_eq-Decides (take (length p) (p ++ name)) p).1 (take-front p name)

nests-content : (p : List ℕ) (c : Content) (o : ℕ) (rest : List Said) → nests p o (said_by p c ++ rest) ≡ nests p o rest
nests-content p Elements.Nothing o rest = refl
nests-content p (Elements.Text text more) o rest = nests-content p more o rest
nests-content p (Elements.Element name attributes within more) o rest =
    let w = said_by p within in
    let m = said_by p more in
    ap (λ b. cond b (nests p (o + 1) ((w ++ Tokens.Close ∷ m) ++ rest)) false) (prefixed p name)
    ∙ ap (nests p (o + 1)) (append_assoc w (Tokens.Close ∷ m) rest)
    ∙ nests-content p within (o + 1) (Tokens.Close ∷ (m ++ rest))
    ∙ ap (λ b. cond b false (nests p (o + 1 - 1) (m ++ rest))) (not_zero o)
    ∙ ap (λ k. nests p k (m ++ rest)) (one_less o)
    ∙ nests-content p more o rest

pub said-nests : (p : List ℕ) (ts : List Token) (c : Content) → Say p ts c → nests p 0 (map (λ t. t.said) ts) ≡ true
said-nests p ts c say = ap (nests p 0) (say ∙ sym (append-nil (said_by p c))) ∙ nests-content p c 0 []

-- ---- what nested tokens say

-- contents, each of which follows an end tag
abbrev said_after : List ℕ → List Content → List Said
said_after p [] = []
said_after p (c ∷ cs) = Tokens.Close ∷ said_by p c ++ said_after p cs

record Nested (p : List ℕ) (o : ℕ) (ts : List Said) : Type 0 where
  first : Content
  others : List Content
  are : length others ≡ o
  say : ts ≡ said_by p first ++ said_after p others

both : (a b : Bool) → cond a b false ≡ true → (a ≡ true) × (b ≡ true)
both true b e = (refl, e)
both false b e = absurd cc

neither : (a b : Bool) → cond a false b ≡ true → (a ≡ false) × (b ≡ true)
neither true b e = absurd cc
neither false b e = (refl, e)

opened : (p : List ℕ) (o : ℕ) (name : List ℕ) (attributes : List Attribute) (ts : List Said) (within : Content) (others : List Content) → has_prefix p name ≡ true → length others ≡ o + 1 → ts ≡ said_by p within ++ said_after p others → Nested p o (Tokens.Open name attributes ∷ ts)
opened p o name attributes ts within [] prefix are say = absurd (omega (arith, are))
opened p o name attributes ts within (more ∷ others) prefix are say =
    let local = drop (length p) name in
    let front : take (length p) name ≡ p = (bytes_eq-Decides (take (length p) name) p).0 prefix in
    let whole : name ≡ p ++ local = sym (take-append-drop (length p) name) ∙ ap (λ l. l ++ local) front in
    record {
      first = Elements.Element local attributes within more;
      others = others;
      are = omega (arith, are);
      say = ap (λ n. Tokens.Open n attributes ∷ ts) whole
          ∙ ap (λ l. Tokens.Open (p ++ local) attributes ∷ l) (say ∙ sym (append_assoc (said_by p within) (Tokens.Close ∷ said_by p more) (said_after p others)));
    }

nested : (p : List ℕ) (o : ℕ) (ts : List Said) → nests p o ts ≡ true → Nested p o ts
nested p o [] e = record { first = Elements.Nothing; others = []; are = grind (arith, nat_tests, e); say = refl }
nested p o (Tokens.Open name attributes ∷ ts) e =
    let h = both (has_prefix p name) (nests p (o + 1) ts) e in
    let n = nested p (o + 1) ts h.1 in
    opened p o name attributes ts n.first n.others h.0 n.are n.say
nested p o (Tokens.Text text ∷ ts) e =
    let n = nested p o ts e in
    record { first = Elements.Text text n.first; others = n.others; are = n.are; say = ap (λ l. Tokens.Text text ∷ l) n.say }
nested p o (Tokens.Close ∷ ts) e =
    let h = neither (eqb o 0) (nests p (o - 1) ts) e in
    let n = nested p (o - 1) ts h.1 in
    record { first = Elements.Nothing; others = n.first ∷ n.others; are = grind (arith, nat_tests, h.0, n.are); say = ap (λ l. Tokens.Close ∷ l) n.say }

none_after : (p : List ℕ) (cs : List Content) → length cs ≡ 0 → said_after p cs ≡ []
none_after p [] none = refl
none_after p (c ∷ cs) none = absurd (omega (arith, none))

pub nested-said : (p : List ℕ) (ts : List Token) → nests p 0 (map (λ t. t.said) ts) ≡ true → (c : Content) × Say p ts c
nested-said p ts e =
    let n = nested p 0 (map (λ t. t.said) ts) e in
    (n.first, n.say ∙ ap (λ l. said_by p n.first ++ l) (none_after p n.others n.are) ∙ append-nil (said_by p n.first))
