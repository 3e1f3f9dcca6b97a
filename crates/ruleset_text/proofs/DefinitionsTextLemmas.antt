-- How many bytes the canonical text of definitions has.
use Rattle.std.proofs.Common.{◌≡◌, ℕ, List, [], ◌∷◌, ◌++◌, length, map, refl, sym, ap, ◌∙◌, append_assoc, arith}
use Rattle.std.proofs.lemmas.List.{length-append, map-append}
use Rattle.ruleset_text.specs.Canonical.{definition_text}
use Rattle.ruleset_text.specs.Definition as definition
use Rattle.ruleset_text.specs.Definition.{Definition}
use Rattle.ruleset_text.specs.Definitions.{Demand, Definitions, named, canonical_lines, canonical_size, lines_size, lines_text, definitions_text}

-- lines, each with its line feed, have as many bytes as are counted
pub lines_text-length : (lines : List (List ℕ)) → length (lines_text lines) ≡ lines_size lines
lines_text-length [] = refl
lines_text-length (line ∷ lines) = omega (arith, length-append (line ++ 10 ∷ []) (lines_text lines), length-append line (10 ∷ []), lines_text-length lines)

-- and so has the canonical text
pub definitions_text-length : (d : Definitions) → length (definitions_text d) ≡ canonical_size d
unfolding canonical_size
definitions_text-length d = lines_text-length (canonical_lines d)

-- ---- part by part

lines_text-append : (xs ys : List (List ℕ)) → lines_text (xs ++ ys) ≡ lines_text xs ++ lines_text ys
lines_text-append [] ys = refl
lines_text-append (x ∷ xs) ys = ap (λ l. (x ++ 10 ∷ []) ++ l) (lines_text-append xs ys) ∙ sym (append_assoc (x ++ 10 ∷ []) (lines_text xs) (lines_text ys))

abbrev pub text_of : Definitions → List Definition → List ℕ
text_of d xs = lines_text (map (definition_text d.set_names) xs)

text_of-append : (d : Definitions) (xs ys : List Definition) → text_of d (xs ++ ys) ≡ text_of d xs ++ text_of d ys
text_of-append d xs ys =
    ap lines_text (map-append (definition_text d.set_names) xs ys) ∙ lines_text-append (map (definition_text d.set_names) xs) (map (definition_text d.set_names) ys)

-- appended one after another, they are the whole text
pub all_pushed : (d : Definitions) (o types sets rules demands actions : List ℕ) → types ≡ o ++ text_of d (map definition.VariantType d.types) → sets ≡ types ++ text_of d (named definition.Set d.set_names d.sets)
    → rules ≡ sets ++ text_of d (named definition.Rule d.rule_names d.rules) → demands ≡ rules ++ text_of d (map (λ e. definition.Demand e.kind e.pattern) d.demands)
    → actions ≡ demands ++ text_of d (map definition.Action d.actions) → actions ≡ o ++ definitions_text d
all_pushed d o types sets rules demands actions a b c e f =
    let t = map definition.VariantType d.types in
    let s = named definition.Set d.set_names d.sets in
    let r = named definition.Rule d.rule_names d.rules in
    let m = map (λ (x : Demand). definition.Demand x.kind x.pattern) d.demands in
    let n = map definition.Action d.actions in
    f ∙ ap (λ l. l ++ text_of d n) (e ∙ ap (λ l. l ++ text_of d m) (c ∙ ap (λ l. l ++ text_of d r) (b ∙ ap (λ l. l ++ text_of d s) a)))
    ∙ regroup_text o (text_of d t) (text_of d s) (text_of d r) (text_of d m) (text_of d n)
    ∙ ap (λ l. o ++ l) (sym (text_of-append d t (s ++ (r ++ (m ++ n))) ∙ ap (λ l. text_of d t ++ l) (text_of-append d s (r ++ (m ++ n))
    ∙ ap (λ l. text_of d s ++ l) (text_of-append d r (m ++ n) ∙ ap (λ l. text_of d r ++ l) (text_of-append d m n)))))
  where
    regroup_text : (o t s r m n : List ℕ) → ((((o ++ t) ++ s) ++ r) ++ m) ++ n ≡ o ++ (t ++ (s ++ (r ++ (m ++ n))))
    regroup_text o t s r m n = simp append_assoc
