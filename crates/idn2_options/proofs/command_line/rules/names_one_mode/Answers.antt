use Rattle.std.proofs.Common.{◌≡◌, ◌∙◌, Option, Some, None, ap, is_some, refl}
use Rattle.std.specs.Prelude.{option_map}
use Rattle.idn2_options.specs.Names.{check_ruleset_name, check_table_name, decode_name, lookup_name, register_name, ruleset_name, variants_name}
use Rattle.idn2_options.specs.Words.{has_flag, has_value}
use Rattle.idn2_options.proofs.command_line.rules.names_one_mode.Goals as goal

-- an option whose text is that
is_given : {X Y : Type 0} (o : Option X) (f : X → Y) (text : Option Y) → option_map f o ≡ text → is_some o ≡ is_some text
is_given None f text same = ap is_some same
is_given (Some x) f text same = ap is_some same

pub returns : goal.returns
returns c =
    let rows = c.args.given.now in
    let seen = c.given.view_is in
    let inside = c.given.inside in
    let files = c.given.invariant in
    let lookup : c.has_flag.result ≡ has_flag lookup_name rows = c.has_flag.ensures ∙ ap (has_flag lookup_name) seen in
    let register : c.has_flag-2.result ≡ has_flag register_name rows = c.has_flag-2.ensures ∙ ap (has_flag register_name) seen in
    let decode : c.has_flag-3.result ≡ has_flag decode_name rows = c.has_flag-3.ensures ∙ ap (has_flag decode_name) seen in
    let variants : c.is_some.result ≡ has_value variants_name rows =
    c.is_some.ensures ∙ is_given inside.listing_table (λ file. file.now) _ files.0 ∙ ap (has_value variants_name) seen in
    let table : c.is_some-2.result ≡ has_value check_table_name rows =
    c.is_some-2.ensures ∙ is_given inside.checked_table (λ file. file.now) _ files.2 ∙ ap (has_value check_table_name) seen in
    let listed : c.is_some-3.result ≡ has_value ruleset_name rows =
    c.is_some-3.ensures ∙ is_given inside.listing_ruleset (λ file. file.now) _ files.1 ∙ ap (has_value ruleset_name) seen in
    let checked : c.is_some-4.result ≡ has_value check_ruleset_name rows =
    c.is_some-4.ensures ∙ is_given inside.checked_ruleset (λ file. file.now) _ files.3 ∙ ap (has_value check_ruleset_name) seen in
    rw (c.count_true.ensures, lookup, register, decode, variants, table, listed, checked, c.prints.ensures) refl
