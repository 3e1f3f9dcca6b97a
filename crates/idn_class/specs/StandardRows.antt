-- Worked rows by Unicode's properties: what the standards say where the profile says another thing.
use Rattle.std.specs.Prelude.{ℕ, List, [], ◌∷◌}
use Rattle.idn_class.specs.declared.class.Class.{Class}
use Rattle.idn_class.specs.declared.class.Class.TheVariants.{Pvalid, Disallowed, Unassigned}

-- Adlam, Imperial Aramaic, Yezidi, Hebrew's varika; a capital, an unassigned code point, a presentation form
abbrev pub classes_by_standard : List (ℕ × ℕ × Class)
classes_by_standard =
    (0x1_E922, 0x1_E943, Pvalid) ∷ (0x1_0840, 0x1_0855, Pvalid) ∷ (0x1_0EB0, 0x1_0EB1, Pvalid)
    ∷ (0xFB1E, 0xFB1E, Pvalid)
    ∷ (0x1_E900, 0x1_E921, Disallowed) ∷ (0x1_0806, 0x1_0807, Unassigned) ∷ (0xFB50, 0xFB50, Disallowed) ∷ []

-- Syriac, Mongolian, 'Phags-pa with a letter of type L, Adlam past a modifier of type T; Myanmar and Thai viramas; and
-- what the profile allows
abbrev pub met_by_standard_joiners : List (List ℕ)
met_by_standard_joiners =
    (0x712 ∷ 0x200C ∷ 0x712 ∷ []) ∷ (0x1820 ∷ 0x200C ∷ 0x1820 ∷ []) ∷ (0xA872 ∷ 0x200C ∷ 0xA840 ∷ [])
    ∷ (0x1_E922 ∷ 0x1_E94B ∷ 0x200C ∷ 0x1_E922 ∷ [])
    ∷ (0x1000 ∷ 0x1039 ∷ 0x200D ∷ 0x1001 ∷ []) ∷ (0x1000 ∷ 0x1039 ∷ 0x200C ∷ 0x1001 ∷ [])
    ∷ (0xE01 ∷ 0xE3A ∷ 0x200D ∷ [])
    ∷ (0x646 ∷ 0x627 ∷ 0x645 ∷ 0x647 ∷ 0x200C ∷ 0x627 ∷ 0x6CC ∷ []) ∷ (0x915 ∷ 0x94D ∷ 0x200D ∷ 0x937 ∷ [])
    ∷ []

-- beside a code point that causes joining; letters that do not join
abbrev pub broken_by_standard_joiners : List (List ℕ)
broken_by_standard_joiners =
    (0x628 ∷ 0x883 ∷ 0x200C ∷ 0x628 ∷ []) ∷ (0x61 ∷ 0x200C ∷ 0x62 ∷ []) ∷ (0x627 ∷ 0x200C ∷ 0x628 ∷ []) ∷ (0x200D ∷ [])
    ∷ []

-- a sign within an RTL label; numbers of Hanifi Rohingya, which are AN; marks that are L, where the rule does not apply
abbrev pub met_by_standard_bidi : List (List ℕ)
met_by_standard_bidi =
    (0x5D0 ∷ 0x2C6 ∷ 0x5D1 ∷ []) ∷ (0x1_E922 ∷ []) ∷ (0x1_0D00 ∷ 0x1_0D30 ∷ []) ∷ (0x1_0D00 ∷ 0x660 ∷ 0x1_0D30 ∷ [])
    ∷ (0xC95 ∷ 0xCBF ∷ []) ∷ (0x2C6 ∷ []) ∷ []

-- at its end, at its start; a mark that is L; both kinds of numbers; an LTR letter before and after
abbrev pub broken_by_standard_bidi : List (List ℕ)
broken_by_standard_bidi =
    (0x5D0 ∷ 0x2C6 ∷ []) ∷ (0x2C6 ∷ 0x5D0 ∷ []) ∷ (0x5D0 ∷ 0xCBF ∷ []) ∷ (0x1_0D00 ∷ 0x6F0 ∷ 0x1_0D30 ∷ [])
    ∷ (0x1_E922 ∷ 0x61 ∷ []) ∷ (0x31 ∷ 0x1_E922 ∷ []) ∷ (0x5D0 ∷ 0x2003 ∷ 0x5D0 ∷ []) ∷ (0x61 ∷ 0x2003 ∷ 0x5D0 ∷ [])
    ∷ []

-- ---- dead prefixes

abbrev pub dead_lists_by_standard : List (List ℕ)
dead_lists_by_standard =
    (0x5D0 ∷ 0xCBF ∷ []) ∷ (0x1_E922 ∷ 0x61 ∷ []) ∷ (0x2C6 ∷ 0x5D0 ∷ []) ∷ (0x31 ∷ 0x1_E922 ∷ []) ∷ (0x660 ∷ [])
    ∷ (0x660 ∷ 0x6F0 ∷ [])
    ∷ (0x1_0D30 ∷ []) ∷ (0x1_0D00 ∷ 0x31 ∷ 0x1_0D30 ∷ []) ∷ (0x5D0 ∷ 0x2003 ∷ []) ∷ (0x2D ∷ []) ∷ []

abbrev pub alive_lists_by_standard : List (List ℕ)
alive_lists_by_standard =
    (0x5D0 ∷ 0x2C6 ∷ []) ∷ (0x2C6 ∷ []) ∷ (0x1_E922 ∷ 0x2D ∷ []) ∷ (0xC95 ∷ 0xCBF ∷ []) ∷ (0x2003 ∷ 0x61 ∷ []) ∷ []
