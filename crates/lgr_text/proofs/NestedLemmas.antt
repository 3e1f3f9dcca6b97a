-- Two at a time in what nests.
use Rattle.std.proofs.Common.{◌≡◌, List, [], ◌∷◌, ◌++◌, refl, ap, ◌∙◌, append_assoc}
use Rattle.std.specs.Prelude.{option_map}
use Rattle.lgr_text.specs.Nested.{nested}

last_two : {X : Type 0} (both : X → X → X) (before : List X) (x y : X) → nested both (before ++ x ∷ y ∷ []) ≡ nested both (before ++ both x y ∷ [])
last_two both [] x y = refl
last_two both (b ∷ []) x y = refl
last_two both (b ∷ c ∷ before) x y = ap (option_map (both b)) (last_two both (c ∷ before) x y)

-- the last two are put together first
pub nested-step : {X : Type 0} (both : X → X → X) (before : List X) (x y : X) → nested both ((before ++ x ∷ []) ++ y ∷ []) ≡ nested both (before ++ both x y ∷ [])
nested-step both before x y = ap (nested both) (append_assoc before (x ∷ []) (y ∷ [])) ∙ last_two both before x y
