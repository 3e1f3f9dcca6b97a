-- What a definition more makes of a table.
use Rattle.std.proofs.Common.{◌≡◌, ℕ, Bool, true, false, not, length, Some, Result, Ok, Err}
use Rattle.std.specs.Prelude.{if◌then◌else◌}
use Rattle.ruleset_text.specs.Canonical.{definition_text}
use Rattle.ruleset_text.specs.declared.fault.DefinitionFault.{DefinitionFault}
use Rattle.ruleset_text.specs.declared.fault.DefinitionFault.TheVariants.{Limit, NoSuchName, BadClass, SameName}
use Rattle.ruleset_text.specs.Definition.{Definition}
use Rattle.ruleset_text.specs.Definitions.{Definitions, added, has_bad_class, has_known_names, has_same_name, is_line_over_limit, is_one_too_many, with_definition}

if-ok : (b : Bool) (f : DefinitionFault) (r : Result Definitions DefinitionFault) (e : Definitions) → (if b then Err f else r) ≡ Ok e → r ≡ Ok e
if-ok true f r e h = absurd (cc)
if-ok false f r e h = h

same-ok : (d e : Definitions) → (let o : Result Definitions DefinitionFault = Ok d in o) ≡ Ok e → d ≡ e
same-ok d e h = cc

-- a definition that was added
pub is-added : (limit : ℕ) (d e : Definitions) (x : Definition) → with_definition limit d (Some x) ≡ Ok e → added d x ≡ e
unfolding with_definition
is-added limit d e x h =
    let count = if-ok (is_one_too_many d x) Limit _ e h in
    let known = if-ok (not (has_known_names d x)) NoSuchName _ e count in
    let line = if-ok (is_line_over_limit limit d (length (definition_text d.set_names x))) Limit _ e known in
    let class = if-ok (has_bad_class d.properties x) BadClass _ e line in
    let name = if-ok (has_same_name d x) SameName _ e class in
    same-ok (added d x) e name
