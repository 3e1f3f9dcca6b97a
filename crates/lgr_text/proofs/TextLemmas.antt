-- The text of an element.
use Rattle.std.proofs.Common.{◌≡◌, ℕ, ◌<◌, true, false, List, [], ◌∷◌, length, Some, None, refl, ap, arith}
use Rattle.xml_text.specs.Tokens
use Rattle.xml_text.specs.Tokens.{Token}
use Rattle.lgr_text.specs.Elements
use Rattle.lgr_text.specs.Elements.{Content, Say, text_of}
use Rattle.lgr_text.specs.inner.Reading.{is_text}
use Rattle.lgr_text.proofs.ContentLemmas.{none-left}

pub text-empty : (p : List ℕ) (ts : List Token) (c : Content) → length ts ≡ 0 → Say p ts c → text_of c ≡ Some []
text-empty p ts c none say = ap text_of (none-left p ts c none say)

pub text-more : (p : List ℕ) (t : Token) (ts : List Token) (c : Content) → 0 < length ts → Say p (t ∷ ts) c → text_of c ≡ None
text-more p t [] c more say = absurd (omega arith)
text-more p t (u ∷ ts) Elements.Nothing more say = absurd cc
text-more p t (u ∷ ts) (Elements.Text text Elements.Nothing) more say = absurd cc
text-more p t (u ∷ ts) (Elements.Text text (Elements.Text other rest)) more say = refl
text-more p t (u ∷ ts) (Elements.Text text (Elements.Element name attributes within rest)) more say = refl
text-more p t (u ∷ ts) (Elements.Element name attributes within rest) more say = refl

pub text-one : (p : List ℕ) (t : Token) (ts : List Token) (c : Content) (text : List ℕ) → length ts ≡ 0 → t.said ≡ Tokens.Text text → Say p (t ∷ ts) c → text_of c ≡ Some text
text-one p t (u ∷ ts) c text none is say = absurd (omega arith)
text-one p t [] Elements.Nothing text none is say = absurd cc
text-one p t [] (Elements.Text other Elements.Nothing) text none is say = let same : other ≡ text = cc in ap Some same
text-one p t [] (Elements.Text other (Elements.Text more rest)) text none is say = absurd cc
text-one p t [] (Elements.Text other (Elements.Element name attributes within rest)) text none is say = absurd cc
text-one p t [] (Elements.Element name attributes within rest) text none is say = absurd cc

pub text-not : (p : List ℕ) (t : Token) (ts : List Token) (c : Content) → is_text t.said ≡ false → Say p (t ∷ ts) c → text_of c ≡ None
text-not p t ts Elements.Nothing differs say = absurd cc
text-not p t ts (Elements.Text text more) differs say =
    let said : t.said ≡ Tokens.Text text = cc in
    let is : is_text t.said ≡ true = ap is_text said in
    absurd cc
text-not p t ts (Elements.Element name attributes within rest) differs say = refl
