-- The form of a path, and where a text fails it.
use Rattle.std.specs.Prelude.{◌≡◌, ℕ, ◌+◌, ◌==◌, nat_le, nat_lt, if◌then◌else◌, List, [], ◌∷◌, length, Option, Some, None, option_map, position}
use Rattle.std.specs.Str.Lossy.{utf8_valid_len}
use Rattle.tl_path.specs.declared.fault.PathKind.{PathKind}
use Rattle.tl_path.specs.declared.fault.PathKind.TheVariants.{Empty, Long, Utf8, Byte, Component, Deep}
use Rattle.tl_path.specs.declared.fault.PathFault.{PathFault}
use Rattle.tl_path.specs.Bytes.{is_barred}
use Rattle.tl_path.specs.Components.{components, is_no_component}

-- a fault of this kind at this place
abbrev pub fault : PathKind → ℕ → PathFault
fault kind at = record { at = at; kind = kind }

-- the fault at the lesser place; the first one where both have one place
abbrev pub earlier : Option PathFault → Option PathFault → Option PathFault
earlier None b = b
earlier (Some a) None = Some a
earlier (Some a) (Some b) = Some (if nat_le a.at b.at then a else b)

-- a text has 1 to 1,024 bytes
abbrev pub size_fault : List ℕ → Option PathFault
size_fault text = if length text == 0 then Some (fault Empty 0)
    else (if nat_lt 1024 (length text) then Some (fault Long 1024) else None)

-- it is UTF-8: else the fault stands where its longest valid front ends
abbrev pub utf8_fault : List ℕ → Option PathFault
utf8_fault text = if nat_lt (utf8_valid_len text) (length text) then Some (fault Utf8 (utf8_valid_len text)) else None

-- it has no barred byte
abbrev pub byte_fault : List ℕ → Option PathFault
byte_fault text = option_map (fault Byte) (position is_barred text)

-- the first fault among some components, the first of which begins at `at` and has `count` before it:
-- none is empty, "." or "..", and at most 64 are there; the fault stands at the component's first byte
abbrev pub component_fault_from : ℕ → ℕ → List (List ℕ) → Option PathFault
component_fault_from at count [] = None
component_fault_from at count (c ∷ cs) = if is_no_component c then Some (fault Component at)
    else (if count == 64 then Some (fault Deep at) else component_fault_from (at + length c + 1) (count + 1) cs)

-- the first fault among a text's components
abbrev pub component_fault : List ℕ → Option PathFault
component_fault text = component_fault_from 0 0 (components text)

-- the first fault of a text of 1 to 1,024 bytes that is UTF-8
abbrev pub place_fault : List ℕ → Option PathFault
place_fault text = earlier (byte_fault text) (component_fault text)

-- a fault of the text's size, else another one
abbrev pub or_else : Option PathFault → Option PathFault → Option PathFault
or_else (Some a) b = Some a
or_else None b = b

-- the first fault of a text that is UTF-8
abbrev pub form_fault : List ℕ → Option PathFault
form_fault text = or_else (size_fault text) (place_fault text)

-- the first fault of a text: one of its size, else the one at the least place, and there the first kind of
-- `Utf8`, `Byte`, `Component` and `Deep`
abbrev pub path_fault : List ℕ → Option PathFault
path_fault text = or_else (size_fault text) (earlier (utf8_fault text) (place_fault text))

-- a text that is a path
abbrev pub IsPath : List ℕ → Type 0
IsPath text = path_fault text ≡ None
