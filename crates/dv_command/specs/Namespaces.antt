-- The names of databases and collections (MongoDB manual, "Naming Restrictions"). Which of the manual's restrictions apply, the
-- greatest length and the codes are this server's own.
use Rattle.std.specs.Prelude.{ℕ, ◌&&◌, not, Bool, List, ◌∷◌, ◌++◌, Option, Some, None, Result, Ok, Err, codes, nat_lt, length, if◌then◌else◌}
use Rattle.dv_value.specs.Tree.{Tree, string, Field}
use Rattle.dv_value.specs.Names.{begins_with_dollar, value_under, has_zero}
use Rattle.dv_path.specs.Names.{has_dot}
use Rattle.dv_refusal.specs.declared.refusal.Refusal.{Refusal}
use Rattle.dv_refusal.specs.declared.refusal.Refusal.TheVariants.{BadValue, FailedToParse, TypeMismatch}

-- whether this can be a database's name: not empty, without a dot and without a zero byte
abbrev pub is_database_name : List ℕ → Bool
is_database_name name = nat_lt 0 (length name) && not (has_dot name) && not (has_zero name)

-- the database that the value of `$db` names: it is required (9), a string (14), and a valid name (2)
abbrev pub database_in : Option Tree → Result (List ℕ) Refusal
database_in None = Err FailedToParse
database_in (Some (string name)) = if is_database_name name then Ok name else Err BadValue
database_in (Some other) = Err TypeMismatch

-- the database of a command, from its field `$db`
abbrev pub database : List Field → Result (List ℕ) Refusal
database body = database_in (value_under (codes "$db") body)

-- whether this can be a collection's name: not empty, without a dollar sign in front and without a zero byte
abbrev pub is_collection_name : List ℕ → Bool
is_collection_name name = nat_lt 0 (length name) && not (begins_with_dollar name) && not (has_zero name)

-- the greatest length of a namespace, in bytes
abbrev pub longest_namespace : ℕ
longest_namespace = 120

-- a database's name and a collection's name, joined by a dot
abbrev pub dotted : List ℕ → List ℕ → List ℕ
dotted database collection = database ++ 46 ∷ collection

-- the namespace of a collection; refused with 2 if the collection's name is not valid or the namespace is too long
abbrev pub namespace : List ℕ → List ℕ → Result (List ℕ) Refusal
namespace database collection =
    if is_collection_name collection && not (nat_lt longest_namespace (length (dotted database collection))) then Ok (dotted database collection) else Err BadValue
