-- What the kinds of error that `clap` names say of the uses of options: one kind at most, which is that of a text to be shown, or some
-- use is wrong; and where a use is wrong, some kind.
use Rattle.std.proofs.Common.{◌≡◌, ◌∙◌, ◌||◌, Bool, true, false, [], ◌∷◌, refl, sym, ap, subst}
use Rattle.clap.specs.Kinds.{Kinds, or_else}
use Rattle.idn2_options.specs.Words.{asks_to_show}

-- of words which may be more than `clap` counts, and in which a use may be wrong
abbrev pub Tells : Bool → Bool → Kinds → Type 0
Tells many wrong [] = wrong ≡ false
Tells many wrong (k ∷ []) = wrong || (many || asks_to_show k) ≡ true
Tells many wrong (k ∷ (l ∷ ks)) = ⊥

either : (a b e : Bool) → (a ≡ true → b ≡ true) → a || e ≡ true → b || e ≡ true
either true b e more is = ap (λ x. x || e) (more refl)
either false true e more is = refl
either false false e more is = is

-- a text is shown
pub tells-shown : (wrong many shows : Bool) → shows ≡ true → wrong || (many || shows) ≡ true
tells-shown true many shows is = refl
tells-shown false true shows is = refl
tells-shown false false shows is = is

pub tells-as : (many f g : Bool) (kinds : Kinds) → f ≡ g → Tells many f kinds → Tells many g kinds
tells-as many f g kinds same tells = subst (λ (wrong : Bool). Tells many wrong kinds) same tells

-- kinds that are put together
pub tells-or_else : (many f g h : Bool) (first second : Kinds) → h ≡ f || g → Tells many f first → Tells many g second
    → Tells many h (or_else first second)
tells-or_else many f g h [] second same tells later = tells-as many g h second (sym (same ∙ ap (λ b. b || g) tells)) later
tells-or_else many f g h (k ∷ []) second same tells later = either f h (many || asks_to_show k) (λ is. same ∙ ap (λ b. b || g) is) tells
tells-or_else many f g h (k ∷ (l ∷ ks)) second same tells later = tells

pub or_else-nil : (kinds : Kinds) → or_else kinds [] ≡ kinds
or_else-nil [] = refl
or_else-nil (k ∷ ks) = refl

pub or_else-assoc : (a b d : Kinds) → or_else (or_else a b) d ≡ or_else a (or_else b d)
or_else-assoc [] b d = refl
or_else-assoc (k ∷ ks) b d = refl
