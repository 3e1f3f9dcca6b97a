-- Variants that are their source.
use Rattle.std.proofs.Common.{◌≡◌, ℕ, suc, ◌<◌, inl, inr, Bool, true, cond, List, ◌∷◌, ◌++◌, map, length, get_or, take, drop, Option, Some, None, refl, sym, ap, subst, ◌∙◌, arith, length-append}
use Rattle.std.specs.Prelude.{All, Contains, filter}
use Rattle.std.proofs.lemmas.List.{map-append, take-append-drop}
use Rattle.std.proofs.lemmas.List.Elements.{All-contains, Contains-append_right, filter-append}
use Rattle.std.proofs.Math.Seq.{drop-cons}
use Rattle.lgr_text.specs.Records as lgr
use Rattle.lgr_text.specs.Records.{condition, variant}
use Rattle.lgr_text.specs.declared.records.Condition.{Condition}
use Rattle.std.specs.Option.{option_map}
use Rattle.variant_table.specs.declared.fault.EntryFault.{EntryFault}
use Rattle.lgr_text.specs.declared.records.Entry.{Entry}
use Rattle.lgr_text.specs.declared.records.Variant.{Variant}
use Rattle.lgr_text.specs.Repertoire.{is_reflexive}
use Rattle.lgr_table.specs.inner.FaultSteps.{TellsEntry, TellsReflexive, TellsRepeated, TellsVariants}
use Rattle.lgr_table.specs.declared.fault.TableError.{TableError}
use Rattle.lgr_table.specs.declared.fault.TableError.TheVariants.{Fault, Memory}
use Rattle.lgr_table.specs.declared.fault.TableFault.TheVariants.{BadClass, Limit, NoSuchName, NotSupported, SameName, SameSource, SameVariant, Syntax}
use Rattle.lgr_table.proofs.CalledLemmas.{HasOne}

-- a condition that is there
pub some-asks : (o : Option Condition) (k : Condition) → o ≡ Some k → option_map condition o ≡ None → ⊥
some-asks o k is none = let e : Some (condition k) ≡ None = ap (option_map condition) (sym is) ∙ none in cc

-- what is told of variants is told of their entry
pub repeated-told : (e : Entry) (fault : EntryFault) (told : TableError) → TellsRepeated e.variants.items told → TellsEntry e fault told
repeated-told e fault (Fault Syntax line) tells = tells
repeated-told e fault (Fault SameSource line) tells = absurd tells
repeated-told e fault (Fault SameVariant line) tells = tells
repeated-told e fault (Fault BadClass line) tells = tells
repeated-told e fault (Fault Limit line) tells = absurd tells
repeated-told e fault (Fault NoSuchName line) tells = tells
repeated-told e fault (Fault SameName line) tells = tells
repeated-told e fault (Fault NotSupported line) tells = tells
repeated-told e fault Memory tells = tt

-- the variants that pass, and this one among them
filter-at : (p : lgr.Variant → Bool) (xs : List Variant) (i : ℕ) (x : Variant) → i < length xs → x ≡ get_or xs i x → p (variant x) ≡ true
    → (back : List lgr.Variant) × (filter p (map variant xs) ≡ filter p (map variant (take i xs)) ++ variant x ∷ back)
filter-at p xs i x less is passes =
    let rest = drop (suc i) xs in
    let all : xs ≡ take i xs ++ x ∷ rest =
    sym (take-append-drop i xs) ∙ ap (λ l. take i xs ++ l) (drop-cons xs i x less ∙ ap (λ y. y ∷ rest) (sym is)) in
    let front = filter p (map variant (take i xs)) in
    let back = filter p (map variant rest) in (
      back,
      ap (λ l. filter p (map variant l)) all ∙ ap (filter p) (map-append variant (take i xs) (x ∷ rest))
          ∙ filter-append p (map variant (take i xs)) (variant x ∷ map variant rest) ∙ ap (λ b. front ++ cond b (variant x ∷ back) back) passes,
    )

pub told-reflexive : (e : Entry) (source : List ℕ) (xs : List Variant) (i : ℕ) (x : Variant) (found : Bool) (told : TableError)
    → xs ≡ e.variants.items → i < length xs → x ≡ get_or xs i x → HasOne (is_reflexive source) (map variant (take i xs)) found
    → TellsReflexive source x found told → TellsVariants e source told
told-reflexive e source xs i x found (Fault Syntax line) all less is has tells = absurd tells
told-reflexive e source xs i x found (Fault SameSource line) all less is has tells = absurd tells
told-reflexive e source xs i x found (Fault SameVariant line) all less is has tells = absurd tells
told-reflexive e source xs i x found (Fault BadClass line) all less is has tells = absurd tells
told-reflexive e source xs i x found (Fault Limit line) all less is has tells = absurd tells
told-reflexive e source xs i x found (Fault NoSuchName line) all less is has tells = absurd tells
told-reflexive e source xs i x found (Fault SameName line) all less is has tells = absurd tells
told-reflexive e source xs i x found (Fault NotSupported line) all less is has tells =
    let p = is_reflexive source in
    let at = filter-at p xs i x less is tells.1 in
    let front = filter p (map variant (take i xs)) in
    let whole : filter p (map variant e.variants.items) ≡ front ++ variant x ∷ at.0 = ap (λ l. filter p (map variant l)) (sym all) ∙ at.1 in
    inr (record {
      itself = x;
      among = subst (λ l. Contains l x) all (i, less, sym is);
      reflexive = tells.1;
      here = tells.0;
      other = λ one. elim tells.2 [
        | inl twice ↦
            (let count : length front ≡ 1 = has.count ∙ ap (λ b. cond b 1 0) twice in
            let few = one.0 in
            omega (arith, few, ap length whole, length-append front (variant x ∷ at.0), count))
        | inr asks ↦ asks (All-contains (λ v. v.condition ≡ None) (front ++ variant x ∷ at.0) (variant x)
            (subst (All (λ v. v.condition ≡ None)) whole one.1) (Contains-append_right front (variant x ∷ at.0) (variant x) (0, omega arith, refl)))
      ];
    })
told-reflexive e source xs i x found Memory all less is has tells = absurd tells
