-- What the getters of a parse say of the definition's entries.
use Rattle.std.proofs.Common.{◌≡◌, Bool, List, [], Option, Some, None, true, false, ap, refl, sym, ◌∙◌}
use Rattle.std.specs.Prelude.{option_map, unwrap_or}
use Rattle.std.specs.Option.{option_map_or}
use Rattle.std.specs.Str.{bytes_eq}
use Rattle.std.specs.Str.Parse.{ParsesBool, true_text}
use Rattle.std.proofs.lemmas.Slice.Eq.{bytes_eq-Decides}
use Rattle.clap.specs.Matches.{ReadsOne, raw_values}
use Rattle.clap.specs.Words.{Text, matched_of, rows_of}
use Rattle.clap.specs.declared.parser.matches.Found.{Found}
use Rattle.clap.proofs.WalkLemmas.{raw_values-rows}
use Rattle.idn2_options.specs.Words.{strings_of}
use Rattle.idn2_options.specs.Names.{strings_name}

-- a text that isn't `true` isn't equal to it
no_true : (text : Text) → (text ≡ true_text → ⊥) → bytes_eq text true_text ≡ false
no_true text different = go (bytes_eq text true_text) refl
  where
    go : (b : Bool) → bytes_eq text true_text ≡ b → b ≡ false
    go true same = absurd (different ((bytes_eq-Decides text true_text).0 same))
    go false same = refl

-- the flag that `get_one` reads of a text
flag-text : (E : Type 0) (text : Text) (read : Option Bool) → ReadsOne {T = Bool} {E = E} ParsesBool text read
    → unwrap_or read false ≡ bytes_eq text true_text
flag-text E text (Some true) is_true = ap (λ t. bytes_eq t true_text) (sym is_true)
flag-text E text (Some false) is_false = ap (λ t. bytes_eq t true_text) (sym is_false)
flag-text E text None failed = sym (no_true text failed.1.0)

pub flag-read : (E : Type 0) (found : Option Text) (read : Option Bool) → (found ≡ None → read ≡ None)
    → ((text : Text) → found ≡ Some text → ReadsOne {T = Bool} {E = E} ParsesBool text read)
    → unwrap_or read false ≡ option_map_or (λ text. bytes_eq text true_text) found false
flag-read E None read none some = ap (λ r. unwrap_or r false) (none refl)
flag-read E (Some text) read none some = flag-text E text read (some text refl)

-- the STRINGS that `get_strs` lends
pub strings-lent : (f : Found) (lent : Option (List Text)) → lent ≡ option_map raw_values (matched_of f strings_name)
    → unwrap_or lent [] ≡ strings_of (rows_of f)
strings-lent f lent is = ap (λ texts. unwrap_or texts []) (is ∙ raw_values-rows f strings_name)
