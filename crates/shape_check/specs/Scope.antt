-- The names that a statement may use: those of the earlier statements, each with the type and shape of its array.
use Rattle.std.specs.Prelude.{ℕ, List, map}
use Rattle.shape_check.specs.declared.typed.ArrayType.{ArrayType}
use Rattle.shape_check.specs.Statement.{Statement, name_of}
use Rattle.shape_check.specs.Rules.{declared_type}

-- name k is that of statement k
abbrev pub Scope : Type 0
Scope = List (List ℕ × ArrayType)

abbrev pub entry_of : Statement → List ℕ × ArrayType
entry_of statement = (name_of statement, declared_type statement)

abbrev pub scope_of : List Statement → Scope
scope_of earlier = map entry_of earlier

abbrev pub scope_names : Scope → List (List ℕ)
scope_names scope = map (λ e. e.0) scope

abbrev pub scope_types : Scope → List ArrayType
scope_types scope = map (λ e. e.1) scope
