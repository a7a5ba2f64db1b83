-- The words of the element types, as every text has them.
use Rattle.std.specs.Prelude.{ℕ, if◌then◌else◌, List, [], ◌∷◌, codes, Option, Some, None}
use Rattle.std.specs.Str.{bytes_eq}
use Rattle.ven_base.specs.declared.elem.Elem.{Elem}
use Rattle.ven_base.specs.declared.elem.Elem.TheVariants.{U8, I8, U16, I16, U32, I32}

-- the word of an element type
abbrev pub elem_word : Elem → List ℕ
elem_word U8 = codes "u8"
elem_word I8 = codes "i8"
elem_word U16 = codes "u16"
elem_word I16 = codes "i16"
elem_word U32 = codes "u32"
elem_word I32 = codes "i32"

-- the element type among these whose word the bytes are
abbrev pub elem_among : List Elem → List ℕ → Option Elem
elem_among [] bytes = None
elem_among (elem ∷ elems) bytes = if bytes_eq bytes (elem_word elem) then Some elem else elem_among elems bytes

-- the element type whose word the bytes are
abbrev pub elem_named : List ℕ → Option Elem
elem_named bytes = elem_among (U8 ∷ I8 ∷ U16 ∷ I16 ∷ U32 ∷ I32 ∷ []) bytes
