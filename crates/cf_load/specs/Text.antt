-- The template of the load mode (this project's own): a tree of records, each with the length of the one that it needs, and an
-- output of the last one's length. It is compact JSON with the members of each object in the order of their bytes.
use Rattle.std.specs.Prelude.{ℕ, zero, suc, ◌-◌, ◌/◌, ◌==◌, List, [], ◌++◌, length, replicate, decimal, codes, if◌then◌else◌}

-- a number in four digits, the zeros in front
abbrev pub four_digits : ℕ → List ℕ
four_digits n = replicate (4 - length (decimal n)) 48 ++ decimal n

-- the logical id of a record
abbrev pub id_of : ℕ → List ℕ
id_of n = codes "R" ++ four_digits n

-- the value of a record: it needs the one of half its number, but the first needs none
abbrev pub value_text : ℕ → List ℕ
value_text n =
    if n == 1 then codes "\"v1\""
    else codes "{\"Fn::Sub\":\"v" ++ (decimal n ++ (codes " of ${" ++ (id_of (n / 2) ++ codes ".Length}\"}")))

-- how a record begins: its id and its key
abbrev pub opening_text : ℕ → List ℕ
opening_text n = codes "\"" ++ (id_of n ++ (codes "\":{\"Properties\":{\"Key\":\"k" ++ decimal n))

-- a record under its id
abbrev pub record_text : ℕ → List ℕ
record_text n =
    opening_text n ++ (codes "\",\"Value\":" ++ (value_text n ++ codes "},\"Type\":\"Local::Records::Record\"}"))

-- what stands between a record and so many before it
abbrev pub comma_after : ℕ → List ℕ
comma_after n = if n == 0 then [] else codes ","

-- the records of the numbers from 1 to n, with commas between them
abbrev pub records_text : ℕ → List ℕ
records_text zero = []
records_text (suc n) = records_text n ++ (comma_after n ++ record_text (suc n))

-- the template of so many records
abbrev pub load_text : ℕ → List ℕ
load_text n =
    codes "{\"Outputs\":{\"Last\":{\"Value\":{\"Fn::GetAtt\":[\"" ++ (id_of n
    ++ (codes "\",\"Length\"]}}},\"Resources\":{" ++ (records_text n
    ++ codes "}}")))
