-- Documents, and what their roots say.
use Rattle.std.proofs.Common.{◌≡◌, ℕ, suc, eqb, Bool, true, false, cond, List, [], ◌∷◌, ◌++◌, length, map, take, drop, Some, None, Result, Ok, Err, refl, sym, ap, ◌∙◌, subst, arith}
use Rattle.std.specs.Prelude.{bytes_eq, codes, option_and_then}
use Rattle.std.proofs.lemmas.Bool.{false≢true}
use Rattle.std.proofs.lemmas.Bool.Decides.{nat_tests}
use Rattle.std.proofs.lemmas.Slice.Eq.{bytes_eq-Decides}
use Rattle.xml_text.specs.Attributes.{Attribute}
use Rattle.xml_text.specs.Tokens
use Rattle.xml_text.specs.Tokens.{Said, Token}
use Rattle.lgr_text.specs.declared.fault.ReadError.{ReadError}
use Rattle.lgr_text.specs.declared.fault.ReadError.TheVariants.{Wrong, Limit, Memory}
use Rattle.lgr_text.specs.declared.records.Ruleset as held
use Rattle.lgr_text.specs.Documents.{IsSaidBy, Says, prefix_of}
use Rattle.lgr_text.specs.Elements
use Rattle.lgr_text.specs.Elements.{Content, Say, each_element, said_by}
use Rattle.lgr_text.specs.Records.{Ruleset, file}
use Rattle.lgr_text.specs.Sections.{section_of, ruleset_by}
use Rattle.lgr_text.specs.Sizes.{exceeds}
use Rattle.lgr_text.specs.inner.Reading.{Fails, IsNot, IsWithinLimit, Reads, after_blanks, closes}
use Rattle.lgr_text.specs.inner.Nesting.{nests}
use Rattle.lgr_text.specs.inner.Roots.{attributes_of, root_attributes, root_of}
use Rattle.lgr_text.proofs.ContentLemmas.{closes-here, drop-front, drop-past, none-said, take-front}
use Rattle.lgr_text.proofs.NestingLemmas.{said-nests}

-- ---- tokens say one content

module _ (p : List ℕ) (within other : Content) (more others : List Said) (e : said_by p within ++ Tokens.Close ∷ more ≡ said_by p other ++ Tokens.Close ∷ others) where
  lengths : length (said_by p within) ≡ length (said_by p other)
  lengths =
      let both : Some (length (said_by p within)) ≡ Some (length (said_by p other)) = sym (closes-here p within more) ∙ ap (closes 0) e ∙ closes-here p other others in
      cc

  insides : said_by p within ≡ said_by p other
  insides =
      sym (take-front (said_by p within) (Tokens.Close ∷ more))
      ∙ ap (take (length (said_by p within))) e
      ∙ ap (λ n. take n (said_by p other ++ Tokens.Close ∷ others)) lengths
      ∙ take-front (said_by p other) (Tokens.Close ∷ others)

  afters : more ≡ others
  afters =
      sym (drop-past (said_by p within) more Tokens.Close)
      ∙ ap (drop (suc (length (said_by p within)))) e
      ∙ ap (λ n. drop (suc n) (said_by p other ++ Tokens.Close ∷ others)) lengths
      ∙ drop-past (said_by p other) others Tokens.Close

one-content : (p : List ℕ) (c d : Content) → said_by p c ≡ said_by p d → c ≡ d
one-content p Elements.Nothing Elements.Nothing e = refl
one-content p Elements.Nothing (Elements.Text text more) e = absurd cc
one-content p Elements.Nothing (Elements.Element name attributes within more) e = absurd cc
one-content p (Elements.Text text more) Elements.Nothing e = absurd cc
one-content p (Elements.Text text more) (Elements.Element name attributes within others) e = absurd cc
one-content p (Elements.Text text more) (Elements.Text other others) e =
    let same : text ≡ other = cc in
    let rest : said_by p more ≡ said_by p others = cc in
    ap (λ t. Elements.Text t more) same ∙ ap (Elements.Text other) (one-content p more others rest)
one-content p (Elements.Element name attributes within more) Elements.Nothing e = absurd cc
one-content p (Elements.Element name attributes within more) (Elements.Text text others) e = absurd cc
one-content p (Elements.Element name attributes within more) (Elements.Element other given inner others) e =
    let same : attributes ≡ given = cc in
    let full : p ++ name ≡ p ++ other = cc in
    let rest : said_by p within ++ Tokens.Close ∷ said_by p more ≡ said_by p inner ++ Tokens.Close ∷ said_by p others = cc in
    let local : name ≡ other = sym (drop-front p name) ∙ ap (drop (length p)) full ∙ drop-front p other in
    ap (λ n. Elements.Element n attributes within more) local
    ∙ ap (λ a. Elements.Element other a within more) same
    ∙ ap (λ w. Elements.Element other given w more) (one-content p within inner (insides p within inner (said_by p more) (said_by p others) rest))
    ∙ ap (Elements.Element other given inner) (one-content p more others (afters p within inner (said_by p more) (said_by p others) rest))

-- ---- the root

-- what follows the root, where it is read
last_says : (name : List ℕ) (attributes : List Attribute) (within more : Content) (r : Ruleset) → root_of (Elements.Element name attributes within more) ≡ Some r
    → (name ≡ codes "lgr") × (more ≡ Elements.Nothing) × (option_and_then ruleset_by (each_element section_of within) ≡ Some r)
last_says name attributes within (Elements.Text text rest) r e = absurd cc
last_says name attributes within (Elements.Element other others inner rest) r e = absurd cc
last_says name attributes within Elements.Nothing r e =
    let said = option_and_then ruleset_by (each_element section_of within) in
    let named : (b : Bool) → bytes_eq name (codes "lgr") ≡ b → cond b said None ≡ Some r → (bytes_eq name (codes "lgr") ≡ true) × (said ≡ Some r) =
    λ b is f. elim b as (λ b. bytes_eq name (codes "lgr") ≡ b → cond b said None ≡ Some r → (bytes_eq name (codes "lgr") ≡ true) × (said ≡ Some r)) [
      | true ↦ λ is f. (is, f)
      | false ↦ λ is f. absurd cc
    ] is f in
    let both = named (bytes_eq name (codes "lgr")) refl e in
    ((bytes_eq-Decides name (codes "lgr")).0 both.0, refl, both.1)

is_zero : (n : ℕ) → eqb n 0 ≡ true → n ≡ 0
is_zero n e = grind (arith, nat_tests, e)

-- the root, if nothing follows it, and else nothing
module _ (name : List ℕ) (attributes : List Attribute) (within : Content) where
  pub root-alone : (p : List ℕ) (ts : List Token) (more : Content) → Say p ts more → eqb (length ts) 0 ≡ true → root_of (Elements.Element name attributes within more) ≡ cond (bytes_eq name (codes "lgr")) (option_and_then ruleset_by (each_element section_of within)) None
  root-alone p [] more say none = ap (λ m. root_of (Elements.Element name attributes within m)) (none-said p more say)
  root-alone p (t ∷ ts) more say none = absurd (omega (arith, is_zero (length (t ∷ ts)) none))

  pub root-followed : (p : List ℕ) (ts : List Token) (more : Content) → Say p ts more → eqb (length ts) 0 ≡ false → root_of (Elements.Element name attributes within more) ≡ None
  root-followed p [] more say some = absurd cc
  root-followed p (t ∷ ts) Elements.Nothing say some = absurd cc
  root-followed p (t ∷ ts) (Elements.Text text rest) say some = refl
  root-followed p (t ∷ ts) (Elements.Element other others inner rest) say some = refl

module _ (p : List ℕ) where
  pub says-root : (tokens : List Token) (c : Content) (r : Ruleset) → option_and_then prefix_of (root_attributes tokens) ≡ Some p → Say p tokens c → root_of (after_blanks c) ≡ Some r → Says tokens r
  says-root [] c r declared say is = absurd cc
  says-root (t ∷ ts) Elements.Nothing r declared say is = absurd cc
  says-root (t ∷ ts) (Elements.Text text more) r declared say is =
      let said : t.said ≡ Tokens.Text text = cc in
      let none : option_and_then prefix_of (attributes_of t.said) ≡ None = ap (λ s. option_and_then prefix_of (attributes_of s)) said in
      absurd cc
  says-root (t ∷ ts) (Elements.Element name attributes within more) r declared say is =
      let said : t.said ≡ Tokens.Open (p ++ name) attributes = cc in
      let found = last_says name attributes within more r is in
      record {
        prefix = p;
        attributes = attributes;
        within = within;
        root = say ∙ ap (λ n. said_by p (Elements.Element n attributes within more)) found.0 ∙ ap (λ m. said_by p (Elements.Element (codes "lgr") attributes within m)) found.1;
        declared = sym (ap (λ s. option_and_then prefix_of (attributes_of s)) said) ∙ declared;
        says = found.2;
      }

-- the first token of an element
first_of : (p name : List ℕ) (attributes : List Attribute) (within more : Content) (ts : List Token) → map (λ t. t.said) ts ≡ said_by p (Elements.Element name attributes within more) → root_attributes ts ≡ Some attributes
first_of p name attributes within more [] e = absurd cc
first_of p name attributes within more (t ∷ ts) e = let said : t.said ≡ Tokens.Open (p ++ name) attributes = cc in ap attributes_of said

same_prefix : (p q : List ℕ) → Some p ≡ Some q → p ≡ q
same_prefix p q e = cc

-- the root of a document that says something
module _ (tokens : List Token) (r : Ruleset) (s : Says tokens r) where
  pub prefix-said : option_and_then prefix_of (root_attributes tokens) ≡ Some s.prefix
  prefix-said = ap (option_and_then prefix_of) (first_of s.prefix (codes "lgr") s.attributes s.within Elements.Nothing tokens s.root) ∙ s.declared

  pub root-said : (p : List ℕ) (c : Content) → option_and_then prefix_of (root_attributes tokens) ≡ Some p → Say p tokens c → root_of (after_blanks c) ≡ Some r
  root-said p c declared say =
      let same : p ≡ s.prefix = same_prefix p s.prefix (sym declared ∙ prefix-said) in
      let other : Say s.prefix tokens c = subst (λ (q : List ℕ). Say q tokens c) same say in
      let is : c ≡ Elements.Element (codes "lgr") s.attributes s.within Elements.Nothing = one-content s.prefix c (Elements.Element (codes "lgr") s.attributes s.within Elements.Nothing) (sym other ∙ s.root) in
      ap (λ k. root_of (after_blanks k)) is ∙ s.says

-- ---- what is read

pub err-prefix : (tokens : List Token) (e : ReadError) → Fails (option_and_then prefix_of (root_attributes tokens)) e → IsSaidBy tokens (Err e)
err-prefix tokens (Wrong line) f = λ r s. let both : Some s.prefix ≡ None = sym (prefix-said tokens r s) ∙ f in absurd cc
err-prefix tokens (Limit line) f = absurd f
err-prefix tokens Memory f = tt

pub err-nesting : (tokens : List Token) (p : List ℕ) (e : ReadError) → option_and_then prefix_of (root_attributes tokens) ≡ Some p → IsNot (nests p 0 (map (λ t. t.said) tokens)) e → IsSaidBy tokens (Err e)
err-nesting tokens p (Wrong line) declared f = λ r s.
    let same : s.prefix ≡ p = same_prefix s.prefix p (sym (prefix-said tokens r s) ∙ declared) in
    let nest : nests p 0 (map (λ t. t.said) tokens) ≡ true =
    subst (λ (q : List ℕ). nests q 0 (map (λ t. t.said) tokens) ≡ true) same (said-nests s.prefix tokens (Elements.Element (codes "lgr") s.attributes s.within Elements.Nothing) s.root) in
    absurd (false≢true (sym f ∙ nest))
err-nesting tokens p (Limit line) declared f = absurd f
err-nesting tokens p Memory declared f = tt

pub err-sizes : (tokens : List Token) (e : ReadError) → IsWithinLimit {T = Unit {0}} (exceeds 0 0 (map (λ t. t.said) tokens)) (Err e) → IsSaidBy tokens (Err e)
err-sizes tokens (Wrong line) f = absurd f
err-sizes tokens (Limit line) f = f
err-sizes tokens Memory f = tt

pub root-read : (tokens : List Token) (p : List ℕ) (c : Content) (result : Result held.Ruleset ReadError) → option_and_then prefix_of (root_attributes tokens) ≡ Some p → Say p tokens c → Reads file (root_of (after_blanks c)) result → IsSaidBy tokens result
root-read tokens p c (Ok r) declared say is = says-root p tokens c (file r) declared say is
root-read tokens p c (Err (Wrong line)) declared say is = λ r s. let both : None ≡ Some r = sym is ∙ root-said tokens r s p c declared say in absurd cc
root-read tokens p c (Err (Limit line)) declared say is = absurd is
root-read tokens p c (Err Memory) declared say is = tt

pub one-ruleset : (tokens : List Token) (r q : Ruleset) → Says tokens r → Says tokens q → r ≡ q
one-ruleset tokens r q s t =
    let both : Some q ≡ Some r =
    sym t.says ∙ root-said tokens r s t.prefix (Elements.Element (codes "lgr") t.attributes t.within Elements.Nothing) (prefix-said tokens q t) t.root in
    cc
