-- Which labels collide, and what each of two is to the other (RFC 7940, sections 5.1 and 7.3). Where both are good
-- today, their whole listings decide. A label that isn't has no listing: there the relation of the table decides, with
-- conditions of variants alone. And the block of a label that is asked among registered ones.
use Rattle.std.specs.Prelude.{◌≡◌, ◌≢◌, ◌⊎◌, ◌&&◌, ◌||◌, ◌==◌, ℕ, Bool, true, false, not, if◌then◌else◌}
use Rattle.std.specs.Prelude.{List, [], ◌∷◌, filter, bytes_eq, Contains, Option, Some, None}
use Rattle.std.specs.List.{flat_map}
use Rattle.std.specs.Ordering.{is_gt}
use Rattle.idn_label.specs.FirstFault.{IsRegistrable}
use Rattle.variant_table.specs.declared.version.Version.{Version}
use Rattle.variant_table.specs.declared.version.Version.TheVariants.{One, Two, Three}
use Rattle.variant_table.specs.Entries.{TableValue}
use Rattle.valid_labels.specs.Validity.{IsAdmitted}
use Rattle.valid_labels.specs.Tests.{is_admitted, is_valid}
use Rattle.variant_list.specs.Arising.{Arises, unasked}
use Rattle.variant_list.specs.Labels.{IsBelow, IsListOf, label_cmp}
use Rattle.variant_list.specs.Spelled.{spelled}
use Rattle.answer_json.specs.declared.block.Disposition.{Disposition}
use Rattle.answer_json.specs.declared.block.Disposition.TheVariants as disposition
use Rattle.answer_json.specs.declared.collision.Regard.{Regard}
use Rattle.answer_json.specs.declared.collision.Regard.TheVariants.{NoVariant, Variant, Blocked, Allocatable}
use Rattle.answer_json.specs.declared.collision.Regards.{Regards}
use Rattle.idn2_options.specs.Settings.{Settings}
use Rattle.idn2_answers.specs.Dispositions.{IsDisposition, disposition as disposition_of, is_left_out}
use Rattle.idn2_answers.specs.Listings.{IsListed, block_to, is_among, is_registrable, nth_if_given}
use Rattle.idn2_answers.specs.Said.{Said, Collision, BlockEnd, NamedEnd}

-- v is good today: it may be registered, and the table admits it
pub record IsGood (o : Settings) (table : TableValue) (v : List ℕ) : Type 0 where
  pub registrable : IsRegistrable o.properties v
  pub admitted : IsAdmitted table v

-- the same settings for whole listings: from the empty text on
abbrev pub whole : Settings → Settings
whole o = record o { after = [] }

-- the whole listing of v has w
pub record IsVariantOf (o : Settings) (table : TableValue) (v w : List ℕ) : Type 0 where
  pub good : IsGood o table v
  pub listed : IsListed (whole o) table v w

-- one of the two isn't good today, and w arises from v all the same: nobody may have it
pub record IsBarred (o : Settings) (table : TableValue) (v w : List ℕ) : Type 0 where
  pub refused : ¬ (IsGood o table v × IsGood o table w)
  pub unlisted : ¬ IsVariantOf o table v w
  pub arises : Arises table v w

-- what a variant is by its disposition; version 1 has none
abbrev pub regard_by : Option Disposition → Regard
regard_by None = Variant
regard_by (Some disposition.Allocatable) = Allocatable
regard_by (Some disposition.Blocked) = Blocked
regard_by (Some disposition.Unclear) = Blocked

-- what is barred
abbrev pub barred_in : Version → Regard
barred_in One = Variant
barred_in Two = Blocked
barred_in Three = Blocked

-- w is this to v, and something: a variant with its disposition in that listing, or barred
abbrev pub IsSomething : Settings → TableValue → List ℕ → List ℕ → Regard → Type 0
IsSomething o table v w regard =
    (IsVariantOf o table v w
    × ((field : Option Disposition) × IsDisposition table v w field × (regard ≡ regard_by field)))
    ⊎ (IsBarred o table v w × (regard ≡ barred_in table.version))

-- w is this to v
abbrev pub IsRegard : Settings → TableValue → List ℕ → List ℕ → Regard → Type 0
IsRegard o table v w NoVariant = (¬ IsVariantOf o table v w) × (¬ IsBarred o table v w)
IsRegard o table v w regard = IsSomething o table v w regard

-- v and w collide: one is something to the other
abbrev pub Collides : Settings → TableValue → List ℕ → List ℕ → Type 0
Collides o table v w =
    (IsVariantOf o table v w ⊎ IsBarred o table v w) ⊎ (IsVariantOf o table w v ⊎ IsBarred o table w v)

-- ---- the same as tests that compute, by a test of which labels may be registered

abbrev pub is_good : (List ℕ → Bool) → TableValue → List ℕ → Bool
is_good registrable table v = registrable v && is_admitted table v

abbrev pub is_variant_of : (List ℕ → Bool) → TableValue → List ℕ → List ℕ → Bool
is_variant_of registrable table v w =
    is_good registrable table v
    && (registrable w && (is_valid table w && (is_among (spelled table v) w && not (is_left_out table v w))))

abbrev pub is_barred : (List ℕ → Bool) → TableValue → List ℕ → List ℕ → Bool
is_barred registrable table v w =
    not (is_good registrable table v && is_good registrable table w)
    && (not (is_variant_of registrable table v w) && is_among (spelled (unasked table) v) w)

abbrev pub regard_of : (List ℕ → Bool) → TableValue → List ℕ → List ℕ → Regard
regard_of registrable table v w =
    if is_variant_of registrable table v w then regard_by (disposition_of table v w)
    else (if is_barred registrable table v w then barred_in table.version else NoVariant)

-- what each of two labels is to the other: the other one to the label, and back
abbrev pub regards_of : (List ℕ → Bool) → TableValue → List ℕ → List ℕ → Regards
regards_of registrable table label other =
    record { there = regard_of registrable table label other; back = regard_of registrable table other label }

-- it is something
abbrev pub is_something : Regard → Bool
is_something NoVariant = false
is_something Variant = true
is_something Blocked = true
is_something Allocatable = true

-- one of them is something
abbrev pub is_either : Regards → Bool
is_either regards = is_something regards.there || is_something regards.back

abbrev pub collide : (List ℕ → Bool) → TableValue → List ℕ → List ℕ → Bool
collide registrable table v w = is_either (regards_of registrable table v w)

-- ---- the block of a label that is asked among registered labels

-- it is the label itself, and `--others` leaves that out
abbrev pub is_itself_left_out : Settings → List ℕ → List ℕ → Bool
is_itself_left_out o label v = o.others && bytes_eq v label

-- it collides with the label, and isn't left out
abbrev pub is_found : Settings → TableValue → List ℕ → List ℕ → Bool
is_found o table label v = not (is_itself_left_out o label v) && collide (is_registrable o.properties) table label v

-- the registered labels after the text of the settings that are found
abbrev pub collisions_after : Settings → TableValue → List (List ℕ) → List ℕ → List (List ℕ)
collisions_after o table registered label =
    filter (λ v. is_gt (label_cmp v o.after) && is_found o table label v) registered

-- one of them, with what each of the two is to the other
abbrev pub collision_by : (List ℕ → Regards) → List ℕ → Said
collision_by regards v = Collision (regards v) v

-- those up to the limit-th, if there is one, and then the end
abbrev pub collisions_to : (List ℕ → Regards) → Option ℕ → List (List ℕ) → List Said
collisions_to regards limit found = block_to (collision_by regards) (nth_if_given found limit) found

-- with `--others` the end of a block names the label, and a block without a label says nothing
abbrev pub named_end : List ℕ → Said → List Said
named_end label (BlockEnd count stop) = if count == 0 then [] else NamedEnd label count stop ∷ []
named_end label said = said ∷ []

abbrev pub named_if : Bool → List ℕ → List Said → List Said
named_if others label block = if others then flat_map (named_end label) block else block

abbrev pub collision_block : Settings → TableValue → List (List ℕ) → List ℕ → List Said
collision_block o table registered label =
    named_if o.others label
    (collisions_to (regards_of (is_registrable o.properties) table label) o.limit
    (collisions_after o table registered label))

-- ---- the same block, by what its lines have to be

-- one of these registered labels, greater than the text of the settings, that collides with the label, and isn't left
-- out
pub record IsFound (o : Settings) (table : TableValue) (labels : List (List ℕ)) (label v : List ℕ) : Type 0 where
  pub registered : Contains labels v
  pub greater : IsBelow o.after v
  pub collides : Collides o table label v
  pub other : o.others ≡ true → v ≢ label

-- each label that is found is said, up to the limit-th, with what it is to the label and the label to it, and then the
-- end
pub record IsCollisionBlock (o : Settings) (table : TableValue) (labels : List (List ℕ)) (label : List ℕ)
    (said : List Said) : Type 0 where
  pub found : List (List ℕ)
  pub exactly : IsListOf (IsFound o table labels label) found
  pub regards : List ℕ → Regards
  pub there : (v : List ℕ) → IsRegard o table label v (regards v).there
  pub back : (v : List ℕ) → IsRegard o table v label (regards v).back
  pub exact : said ≡ named_if o.others label (collisions_to regards o.limit found)
