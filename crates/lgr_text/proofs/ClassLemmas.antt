-- The code points of tags.
use Rattle.std.proofs.Common.{◌≡◌, ℕ, ◌+◌, ◌<◌, Bool, ◌||◌, true, false, List, [], ◌∷◌, ◌++◌, map, length, take, get_or, if◌then◌else◌, refl, sym, ap, ◌∙◌, arith}
use Rattle.std.specs.List.{All, list_any}
use Rattle.std.proofs.lemmas.Grind.{flat_map-append}
use Rattle.std.proofs.lemmas.List.{append-nil, map-append, take_more}
use Rattle.std.proofs.lemmas.List.Elements.{All-append}
use Rattle.std.proofs.lemmas.List.Folds.{list_any-append}
use Rattle.ruleset_text.specs.Names.{is_one_of}
use Rattle.lgr_text.specs.CodePoints.{IsSpan}
use Rattle.lgr_text.specs.Known.{single_points, tagged, HaveSpans}
use Rattle.lgr_text.specs.Records.{Entry}

no-spans : All IsSpan []
no-spans k d less = absurd (omega (arith, less))

pub tagged-spans : (entries : List Entry) (tag : List ℕ) → HaveSpans entries → All IsSpan (tagged entries tag)
tagged-spans [] tag have = no-spans
tagged-spans (e ∷ entries) tag have =
    elim (is_one_of e.tags tag) as (λ b. All IsSpan ((if b then single_points e.source else []) ++ tagged entries tag)) [
      | true ↦ All-append IsSpan (single_points e.source) (tagged entries tag) have.0 (tagged-spans entries tag have.1)
      | false ↦ tagged-spans entries tag have.1
    ]

-- one more of what is in memory, as its model has it
pub more : {X Y : Type 0} (f : X → Y) (xs : List X) (i : ℕ) (x : X) → i < length xs → x ≡ get_or xs i x → map f (take (i + 1) xs) ≡ map f (take i xs) ++ f x ∷ []
more f xs i x less is = ap (map f) (take_more xs i x less ∙ ap (λ y. take i xs ++ y ∷ []) (sym is)) ∙ map-append f (take i xs) (x ∷ [])

pub tagged-more : (entries : List Entry) (e : Entry) (tag : List ℕ) → tagged (entries ++ e ∷ []) tag ≡ tagged entries tag ++ (if is_one_of e.tags tag then single_points e.source else [])
tagged-more entries e tag =
    flat_map-append (λ (d : Entry). if is_one_of d.tags tag then single_points d.source else []) entries (e ∷ [])
    ∙ ap (λ l. tagged entries tag ++ l) (append-nil (if is_one_of e.tags tag then single_points e.source else []))

or-none : (b : Bool) → (b || false) ≡ b
or-none true = refl
or-none false = refl

pub any-more : {X : Type 0} (p : X → Bool) (xs : List X) (x : X) → list_any p (xs ++ x ∷ []) ≡ (list_any p xs || p x)
any-more p xs x = list_any-append p xs (x ∷ []) ∙ ap (λ b. list_any p xs || b) (or-none (p x))
