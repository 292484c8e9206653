-- The codes with which a handler refuses (CloudFormation handler contract, handler error codes), with the names that reports print and the
-- numbers that the journal has (this project's own).
use Rattle.std.specs.Prelude.{ℕ, ◌==◌, List, [], ◌∷◌, Option, find, codes}
use Rattle.cf_tree.specs.declared.code.Code.{Code}
use Rattle.cf_tree.specs.declared.code.Code.TheVariants as code

-- the number of a code
abbrev pub number_of : Code → ℕ
number_of code.NotUpdatable = 1
number_of code.InvalidRequest = 2
number_of code.AccessDenied = 3
number_of code.InvalidCredentials = 4
number_of code.AlreadyExists = 5
number_of code.NotFound = 6
number_of code.ResourceConflict = 7
number_of code.Throttling = 8
number_of code.ServiceLimitExceeded = 9
number_of code.NotStabilized = 10
number_of code.GeneralServiceException = 11
number_of code.ServiceInternalError = 12
number_of code.NetworkFailure = 13
number_of code.InternalFailure = 14

-- the name of a code
abbrev pub name_of : Code → List ℕ
name_of code.NotUpdatable = codes "NotUpdatable"
name_of code.InvalidRequest = codes "InvalidRequest"
name_of code.AccessDenied = codes "AccessDenied"
name_of code.InvalidCredentials = codes "InvalidCredentials"
name_of code.AlreadyExists = codes "AlreadyExists"
name_of code.NotFound = codes "NotFound"
name_of code.ResourceConflict = codes "ResourceConflict"
name_of code.Throttling = codes "Throttling"
name_of code.ServiceLimitExceeded = codes "ServiceLimitExceeded"
name_of code.NotStabilized = codes "NotStabilized"
name_of code.GeneralServiceException = codes "GeneralServiceException"
name_of code.ServiceInternalError = codes "ServiceInternalError"
name_of code.NetworkFailure = codes "NetworkFailure"
name_of code.InternalFailure = codes "InternalFailure"

-- all codes
abbrev pub all_codes : List Code
all_codes =
    code.NotUpdatable ∷ code.InvalidRequest ∷ code.AccessDenied ∷ code.InvalidCredentials ∷ code.AlreadyExists ∷ code.NotFound
    ∷ code.ResourceConflict ∷ code.Throttling ∷ code.ServiceLimitExceeded ∷ code.NotStabilized ∷ code.GeneralServiceException
    ∷ code.ServiceInternalError ∷ code.NetworkFailure ∷ code.InternalFailure ∷ []

-- the code with the number n, if there is one
abbrev pub code_of : ℕ → Option Code
code_of n = find (λ c. number_of c == n) all_codes
