-- Quantities that have a limit.
use Rattle.std.specs.Prelude.{ℕ, List, codes}
use Rattle.tl_kind.specs.declared.quantity.What.{What}
use Rattle.tl_kind.specs.declared.quantity.What.TheVariants as quantities

-- a quantity that has a limit, by its name
abbrev pub quantity_name : What → List ℕ
quantity_name quantities.Line = codes "Line"
quantity_name quantities.Input = codes "Input"
quantity_name quantities.Source = codes "Source"
quantity_name quantities.Pins = codes "Pins"
quantity_name quantities.Database = codes "Database"
quantity_name quantities.Marks = codes "Marks"
quantity_name quantities.File = codes "File"
quantity_name quantities.Frame = codes "Frame"
quantity_name quantities.Packages = codes "Packages"
quantity_name quantities.Sources = codes "Sources"
quantity_name quantities.Files = codes "Files"

-- the greatest number of a quantity that is allowed
abbrev pub limit_of : What → ℕ
limit_of quantities.Line = 65536
limit_of quantities.Input = 17179869184
limit_of quantities.Source = 1048576
limit_of quantities.Pins = 1048576
limit_of quantities.Database = 268435456
limit_of quantities.Marks = 268435456
limit_of quantities.File = 268435456
limit_of quantities.Frame = 1073741824
limit_of quantities.Packages = 65536
limit_of quantities.Sources = 65536
limit_of quantities.Files = 1048576
