-- What is told of a form, by what is tested of it in turn.
use Rattle.std.proofs.Common.{◌≡◌, Bool, true, false, cond, List, ◌++◌, Result, Ok, Err, refl, ap, ◌∙◌}
use Rattle.std.specs.List.{list_any}
use Rattle.ruleset_text.specs.Definitions.{Definitions}
use Rattle.ruleset_text.specs.Entries.{EntryForm}
use Rattle.variant_table.specs.declared.version.Version.{Version}
use Rattle.variant_table.specs.Faults.{LineFault, Limit, NoSuchName, BadClass, SameVariant, SameSource}
use Rattle.variant_table.specs.Conditions.{is_over_limit, has_bad_class, has_repeat, has_source_in}
use Rattle.variant_table.specs.Entries.{Entry}
use Rattle.variant_table.specs.Forms.{knows_all, written_out, entries_of}
use Rattle.variant_table.specs.Reading.{◌>>=◌, named_entries, with_entries, with_form}
use Rattle.idn_class.specs.declared.properties.Properties.{Properties}

-- what is told by these answers
abbrev pub told_by : List Entry → List Entry → (over known bad again source : Bool) → Result (List Entry) LineFault
told_by table entries over known bad again source =
    cond over (Err Limit) (cond known (cond bad (Err BadClass) (cond again (Err SameVariant) (cond source (Err SameSource) (Ok (table ++ entries))))) (Err NoSuchName))

with_entries-by : (p : Properties) (t es : List Entry) (b r s : Bool) → list_any (has_bad_class p) es ≡ b → list_any has_repeat es ≡ r → list_any (has_source_in t) es ≡ s
    → with_entries p t es ≡ cond b (Err BadClass) (cond r (Err SameVariant) (cond s (Err SameSource) (Ok (t ++ es))))
unfolding with_entries
with_entries-by p t es b r s g h i =
    ap (λ x. cond x (Err BadClass) (cond (list_any has_repeat es) (Err SameVariant) (cond (list_any (has_source_in t) es) (Err SameSource) (Ok (t ++ es))))) g
    ∙ ap (λ x. cond b (Err BadClass) (cond x (Err SameVariant) (cond (list_any (has_source_in t) es) (Err SameSource) (Ok (t ++ es))))) h
    ∙ ap (λ x. cond b (Err BadClass) (cond r (Err SameVariant) (cond x (Err SameSource) (Ok (t ++ es))))) i

named-by : (d : Definitions) (t : List Entry) (form : EntryForm) (k : Bool) → knows_all d form.mapped ≡ k → (named_entries d form >>= with_entries d.properties t) ≡ cond k (with_entries d.properties t (entries_of d form)) (Err NoSuchName)
named-by d t form k e = ap (λ b. cond b (Ok (entries_of d form)) (Err NoSuchName) >>= with_entries d.properties t) e ∙ by_known k
  where
    by_known : (b : Bool) → (cond b (Ok (entries_of d form)) (Err NoSuchName) >>= with_entries d.properties t) ≡ cond b (with_entries d.properties t (entries_of d form)) (Err NoSuchName)
    by_known true = refl
    by_known false = refl

pub with_form-by : (v : Version) (d : Definitions) (t : List Entry) (form : EntryForm) (o k b r s : Bool) → is_over_limit v d t (written_out form) ≡ o → knows_all d form.mapped ≡ k
    → list_any (has_bad_class d.properties) (entries_of d form) ≡ b → list_any has_repeat (entries_of d form) ≡ r → list_any (has_source_in t) (entries_of d form) ≡ s
    → with_form v d t form ≡ told_by t (entries_of d form) o k b r s
unfolding with_form
with_form-by v d t form o k b r s f e g h i =
    ap (λ x. cond x (Err Limit) (named_entries d form >>= with_entries d.properties t)) f
    ∙ ap (λ x. cond o (Err Limit) x) (named-by d t form k e ∙ ap (λ x. cond k x (Err NoSuchName)) (with_entries-by d.properties t (entries_of d form) b r s g h i))

-- the same by the entries of the form
pub with_form-entries : (v : Version) (d : Definitions) (t : List Entry) (form : EntryForm) → is_over_limit v d t (written_out form) ≡ false → knows_all d form.mapped ≡ true → with_form v d t form ≡ with_entries d.properties t (entries_of d form)
unfolding with_form
with_form-entries v d t form f e = ap (λ x. cond x (Err Limit) (named_entries d form >>= with_entries d.properties t)) f ∙ named-by d t form true e

pub with_form-over : (v : Version) (d : Definitions) (t : List Entry) (form : EntryForm) → is_over_limit v d t (written_out form) ≡ true → with_form v d t form ≡ Err Limit
unfolding with_form
with_form-over v d t form f = ap (λ x. cond x (Err Limit) (named_entries d form >>= with_entries d.properties t)) f

pub with_form-unnamed : (v : Version) (d : Definitions) (t : List Entry) (form : EntryForm) → is_over_limit v d t (written_out form) ≡ false → knows_all d form.mapped ≡ false → with_form v d t form ≡ Err NoSuchName
unfolding with_form
with_form-unnamed v d t form f e = ap (λ x. cond x (Err Limit) (named_entries d form >>= with_entries d.properties t)) f ∙ named-by d t form false e

pub entries-bad : (p : Properties) (t es : List Entry) → list_any (has_bad_class p) es ≡ true → with_entries p t es ≡ Err BadClass
entries-bad p t es h = with_entries-by p t es true _ _ h refl refl

pub entries-again : (p : Properties) (t es : List Entry) → list_any (has_bad_class p) es ≡ false → list_any has_repeat es ≡ true → with_entries p t es ≡ Err SameVariant
entries-again p t es h r = with_entries-by p t es false true _ h r refl

pub entries-new : (p : Properties) (t es : List Entry) → list_any (has_bad_class p) es ≡ false → list_any has_repeat es ≡ false → with_entries p t es ≡ cond (list_any (has_source_in t) es) (Err SameSource) (Ok (t ++ es))
entries-new p t es h r = with_entries-by p t es false false _ h r refl
