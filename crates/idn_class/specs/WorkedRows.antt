-- Worked rows that the definitions meet: classes as RFC 5892 prints them, and for each rule labels that just meet it
-- and labels that just break it.
use Rattle.std.specs.Prelude.{◌≡◌, ℕ, ◌≤◌, List, [], ◌∷◌}
use Rattle.idn_class.specs.declared.bidi_class.BidiClass.{BidiClass}
use Rattle.idn_class.specs.declared.bidi_class.BidiClass.TheVariants.{L, R, AL, EN, AN, ES, CS, ET, ON, BN, NSM}
use Rattle.idn_class.specs.declared.class.Class.{Class}
use Rattle.idn_class.specs.declared.class.Class.TheVariants.{Pvalid, Contextj, Contexto, Disallowed, Unassigned}
use Rattle.idn_class.specs.declared.properties.Properties.{Properties}
use Rattle.idn_class.specs.Class.{class_of}

-- ---- classes: the first and the last code point of a row, and their class

abbrev pub HasClasses : Properties → List (ℕ × ℕ × Class) → Type 0
HasClasses properties [] = Unit {0}
HasClasses properties (row ∷ rows) =
    ((c : ℕ) → row.0 ≤ c → c ≤ row.1 → class_of properties c ≡ row.2) × HasClasses properties rows

-- RFC 5892, appendix B.1, from its first line to the end of Latin-1
abbrev pub latin_1 : List (ℕ × ℕ × Class)
latin_1 =
    (0x00, 0x2C, Disallowed) ∷ (0x2D, 0x2D, Pvalid) ∷ (0x2E, 0x2F, Disallowed) ∷ (0x30, 0x39, Pvalid)
    ∷ (0x3A, 0x60, Disallowed)
    ∷ (0x61, 0x7A, Pvalid) ∷ (0x7B, 0xB6, Disallowed) ∷ (0xB7, 0xB7, Contexto) ∷ (0xB8, 0xDE, Disallowed)
    ∷ (0xDF, 0xF6, Pvalid)
    ∷ (0xF7, 0xF7, Disallowed) ∷ (0xF8, 0xFF, Pvalid) ∷ []

-- RFC 5892, section 2.6, in its order
abbrev pub exceptions : List (ℕ × ℕ × Class)
exceptions =
    (0xDF, 0xDF, Pvalid) ∷ (0x3C2, 0x3C2, Pvalid) ∷ (0x6FD, 0x6FD, Pvalid) ∷ (0x6FE, 0x6FE, Pvalid)
    ∷ (0xF0B, 0xF0B, Pvalid)
    ∷ (0x3007, 0x3007, Pvalid) ∷ (0xB7, 0xB7, Contexto) ∷ (0x375, 0x375, Contexto) ∷ (0x5F3, 0x5F3, Contexto)
    ∷ (0x5F4, 0x5F4, Contexto) ∷ (0x30FB, 0x30FB, Contexto) ∷ (0x660, 0x669, Contexto) ∷ (0x6F0, 0x6F9, Contexto)
    ∷ (0x640, 0x640, Disallowed) ∷ (0x7FA, 0x7FA, Disallowed) ∷ (0x302E, 0x302F, Disallowed)
    ∷ (0x3031, 0x3035, Disallowed)
    ∷ (0x303B, 0x303B, Disallowed) ∷ []

-- code points of the other parts of RFC 5892, section 2, and of the two lines of this profile
abbrev pub examples : List (ℕ × ℕ × Class)
examples =
    -- LetterDigits (A): Cyrillic, Devanagari with a vowel sign and a digit, Han, a combining acute accent
    (0x430, 0x44F, Pvalid) ∷ (0x915, 0x915, Pvalid) ∷ (0x93E, 0x93E, Pvalid) ∷ (0x966, 0x966, Pvalid)
    ∷ (0x4E2D, 0x4E2D, Pvalid)
    ∷ (0x301, 0x301, Pvalid)
    -- Unstable (B): an upper-case letter, a ligature, a fullwidth letter, KELVIN SIGN
    ∷ (0x410, 0x42F, Disallowed) ∷ (0xFB00, 0xFB00, Disallowed) ∷ (0xFF41, 0xFF41, Disallowed)
    ∷ (0x212A, 0x212A, Disallowed)
    -- IgnorableProperties (C): COMBINING GRAPHEME JOINER, EN QUAD, a noncharacter
    ∷ (0x34F, 0x34F, Disallowed) ∷ (0x2000, 0x2000, Disallowed) ∷ (0xFDD0, 0xFDD0, Disallowed)
    -- IgnorableBlocks (D)
    ∷ (0x20D0, 0x20DC, Disallowed) ∷ (0x1_D165, 0x1_D166, Disallowed) ∷ (0x1_D242, 0x1_D244, Disallowed)
    -- JoinControl (H)
    ∷ (0x200C, 0x200D, Contextj)
    -- OldHangulJamo (I)
    ∷ (0x1100, 0x11FF, Disallowed) ∷ (0xA960, 0xA97C, Disallowed) ∷ (0xD7B0, 0xD7C6, Disallowed)
    -- Unassigned (J)
    ∷ (0x5_0000, 0x5_0000, Unassigned) ∷ (0x378, 0x379, Unassigned)
    -- a control and a symbol, to which only the last line applies
    ∷ (0x80, 0x80, Disallowed) ∷ (0x2603, 0x2603, Disallowed)
    -- no scalar value
    ∷ (0xD800, 0xD800, Disallowed) ∷ (0xDFFF, 0xDFFF, Disallowed) ∷ (0x11_0000, 0x11_0000, Disallowed)
    -- outside the profile, letters and unassigned code points alike
    ∷ (0xFB1E, 0xFB1E, Disallowed) ∷ (0xFE73, 0xFE73, Disallowed) ∷ (0x1_0800, 0x1_0800, Disallowed)
    ∷ (0x1_0806, 0x1_0806, Disallowed)
    ∷ (0x1_E900, 0x1_E900, Disallowed) ∷ []

-- ---- joiners (appendix A.1 and A.2)

abbrev pub met_by_joiners : List (List ℕ)
met_by_joiners =
    -- between letters that join, past vowel signs, after a virama
    (0x646 ∷ 0x627 ∷ 0x645 ∷ 0x647 ∷ 0x200C ∷ 0x627 ∷ 0x6CC ∷ [])
    ∷ (0x628 ∷ 0x64E ∷ 0x200C ∷ 0x64E ∷ 0x64F ∷ 0x627 ∷ [])
    ∷ (0x915 ∷ 0x94D ∷ 0x200C ∷ 0x937 ∷ [])
    -- ZERO WIDTH JOINER after each virama
    ∷ (0x915 ∷ 0x94D ∷ 0x200D ∷ 0x937 ∷ [])
    ∷ (0x9CD ∷ 0x200D ∷ 0xA4D ∷ 0x200D ∷ 0xACD ∷ 0x200D ∷ 0xB4D ∷ 0x200D ∷ 0xBCD ∷ 0x200D ∷ [])
    ∷ (0xC4D ∷ 0x200D ∷ 0xCCD ∷ 0x200D ∷ 0xD4D ∷ 0x200D ∷ 0xDCA ∷ 0x200D ∷ [])
    ∷ []

abbrev pub broken_by_joiners : List (List ℕ)
broken_by_joiners =
    -- between letters that do not join, or with a joining letter on one side alone
    (0x61 ∷ 0x200C ∷ 0x62 ∷ []) ∷ (0x628 ∷ 0x200C ∷ 0x61 ∷ []) ∷ (0x61 ∷ 0x200C ∷ 0x628 ∷ [])
    -- ALEF joins only with what stands before it
    ∷ (0x627 ∷ 0x200C ∷ 0x628 ∷ [])
    -- at an end of the label, with nothing or with vowel signs alone beyond
    ∷ (0x200C ∷ 0x628 ∷ []) ∷ (0x628 ∷ 0x200C ∷ []) ∷ (0x64E ∷ 0x200C ∷ 0x628 ∷ []) ∷ (0x628 ∷ 0x200C ∷ 0x64E ∷ [])
    -- a second joiner does not join, and is not passed over
    ∷ (0x628 ∷ 0x200C ∷ 0x200C ∷ 0x628 ∷ [])
    -- ZERO WIDTH JOINER without a virama, or with one that is not next to it
    ∷ (0x200D ∷ []) ∷ (0x628 ∷ 0x200D ∷ 0x628 ∷ []) ∷ (0x94D ∷ 0x915 ∷ 0x200D ∷ [])
    ∷ []

-- ---- other code points that need a context (appendix A.3 to A.9)

abbrev pub met_by_others : List (List ℕ)
met_by_others =
    (0x6C ∷ 0xB7 ∷ 0x6C ∷ [])
    ∷ (0x375 ∷ 0x3B1 ∷ [])
    ∷ (0x5D0 ∷ 0x5F3 ∷ [])
    ∷ (0x5D0 ∷ 0x5F4 ∷ [])
    ∷ (0x30A2 ∷ 0x30FB ∷ []) ∷ (0x30FB ∷ 0x3042 ∷ []) ∷ (0x61 ∷ 0x30FB ∷ 0x62 ∷ 0x4E2D ∷ [])
    ∷ (0x627 ∷ 0x660 ∷ 0x669 ∷ [])
    ∷ (0x627 ∷ 0x6F0 ∷ 0x6F9 ∷ [])
    ∷ []

abbrev pub broken_by_others : List (List ℕ)
broken_by_others =
    (0x61 ∷ 0xB7 ∷ 0x6C ∷ []) ∷ (0x6C ∷ 0xB7 ∷ 0x61 ∷ []) ∷ (0x6C ∷ 0xB7 ∷ []) ∷ (0xB7 ∷ 0x6C ∷ [])
    ∷ (0x375 ∷ []) ∷ (0x3B1 ∷ 0x375 ∷ []) ∷ (0x375 ∷ 0x61 ∷ [])
    ∷ (0x5F3 ∷ 0x5D0 ∷ []) ∷ (0x61 ∷ 0x5F3 ∷ [])
    ∷ (0x5F4 ∷ 0x5D0 ∷ []) ∷ (0x61 ∷ 0x5F4 ∷ [])
    ∷ (0x30FB ∷ []) ∷ (0x61 ∷ 0x30FB ∷ 0x62 ∷ [])
    ∷ (0x627 ∷ 0x660 ∷ 0x6F0 ∷ []) ∷ (0x627 ∷ 0x6F9 ∷ 0x669 ∷ [])
    ∷ []

-- ---- the Bidi rule (RFC 5893, section 2)

-- Bidi classes that meet all six conditions
abbrev pub met_by_classes : List (List BidiClass)
met_by_classes =
    (R ∷ EN ∷ []) ∷ (AL ∷ AN ∷ []) ∷ (L ∷ EN ∷ [])
    ∷ (R ∷ ES ∷ CS ∷ ET ∷ ON ∷ BN ∷ AL ∷ [])
    ∷ (R ∷ NSM ∷ []) ∷ (AL ∷ EN ∷ NSM ∷ NSM ∷ [])
    ∷ (L ∷ ES ∷ CS ∷ ET ∷ ON ∷ BN ∷ EN ∷ NSM ∷ [])
    ∷ []

-- Bidi classes that break one condition alone, in the order of the conditions
abbrev pub broken_by_classes : List (List BidiClass)
broken_by_classes =
    -- 1: the first
    [] ∷ (EN ∷ R ∷ []) ∷ (NSM ∷ R ∷ [])
    -- 2: L in an RTL label
    ∷ (R ∷ L ∷ R ∷ [])
    -- 3: the end of an RTL label
    ∷ (R ∷ ES ∷ []) ∷ (AL ∷ ON ∷ NSM ∷ [])
    -- 4: EN and AN in an RTL label
    ∷ (AL ∷ EN ∷ AN ∷ [])
    -- 5: R, AL or AN in an LTR label
    ∷ (L ∷ R ∷ L ∷ []) ∷ (L ∷ AL ∷ L ∷ []) ∷ (L ∷ AN ∷ L ∷ [])
    -- 6: the end of an LTR label
    ∷ (L ∷ ES ∷ []) ∷ (L ∷ BN ∷ NSM ∷ [])
    ∷ []

abbrev pub met_by_labels : List (List ℕ)
met_by_labels =
    (0x5D0 ∷ 0x31 ∷ []) ∷ (0x5D0 ∷ 0x2D ∷ 0x5D1 ∷ []) ∷ (0x5D0 ∷ 0x5B0 ∷ []) ∷ (0x627 ∷ 0x660 ∷ [])
    ∷ (0x627 ∷ 0x6F0 ∷ 0x64E ∷ [])
    -- without R, AL and AN the rule does not apply
    ∷ (0x61 ∷ 0x31 ∷ []) ∷ (0x31 ∷ 0x61 ∷ []) ∷ (0x61 ∷ 0x2D ∷ []) ∷ []
    ∷ []

abbrev pub broken_by_labels : List (List ℕ)
broken_by_labels =
    (0x31 ∷ 0x5D0 ∷ []) ∷ (0x5D0 ∷ 0x61 ∷ 0x5D1 ∷ []) ∷ (0x5D0 ∷ 0x2D ∷ []) ∷ (0x5D0 ∷ 0x2D ∷ 0x5B0 ∷ [])
    ∷ (0x627 ∷ 0x31 ∷ 0x660 ∷ [])
    ∷ (0x61 ∷ 0x5D0 ∷ []) ∷ (0x61 ∷ 0x5D0 ∷ 0x61 ∷ [])
    ∷ []

-- ---- dead prefixes

abbrev pub dead_lists : List (List ℕ)
dead_lists =
    (0x2D ∷ []) ∷ (0x61 ∷ 0x62 ∷ 0x2D ∷ 0x2D ∷ []) ∷ (0x301 ∷ []) ∷ (0x903 ∷ []) ∷ (0x61 ∷ 0x5D0 ∷ [])
    ∷ (0x31 ∷ 0x5D0 ∷ [])
    ∷ (0x5D0 ∷ 0x61 ∷ []) ∷ (0x627 ∷ 0x31 ∷ 0x660 ∷ []) ∷ (0x627 ∷ 0x660 ∷ 0x6F0 ∷ []) ∷ (0x660 ∷ 0x6F0 ∷ [])
    ∷ (0x660 ∷ [])
    -- whatever follows
    ∷ (0x61 ∷ 0x62 ∷ 0x2D ∷ 0x2D ∷ 0x63 ∷ []) ∷ (0x5D0 ∷ 0x61 ∷ 0x5D1 ∷ [])
    -- a sign is L; by Unicode the first of these has no dead prefix
    ∷ (0x5D0 ∷ 0x2C6 ∷ []) ∷ (0x2C6 ∷ 0x5D0 ∷ [])
    ∷ []

-- also lists that end in what no label may end in, or in what needs a context
abbrev pub alive_lists : List (List ℕ)
alive_lists =
    [] ∷ (0x61 ∷ 0x2D ∷ 0x2D ∷ []) ∷ (0x61 ∷ 0x62 ∷ 0x2D ∷ []) ∷ (0x61 ∷ 0x62 ∷ 0x63 ∷ 0x2D ∷ 0x2D ∷ [])
    ∷ (0x5D0 ∷ 0x2D ∷ [])
    ∷ (0x5D0 ∷ 0x5B0 ∷ []) ∷ (0x627 ∷ 0x660 ∷ []) ∷ (0x627 ∷ 0x31 ∷ []) ∷ (0x61 ∷ 0x301 ∷ []) ∷ (0xD800 ∷ [])
    ∷ (0x11_0000 ∷ 0x61 ∷ [])
    -- by Unicode neither of these has no dead prefix
    ∷ (0x5D0 ∷ 0xCBF ∷ []) ∷ (0x1_E922 ∷ 0x61 ∷ [])
    ∷ []
