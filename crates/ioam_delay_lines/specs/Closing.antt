-- The first line and the last ones.
use Rattle.std.specs.Prelude.{ℕ, Bool, ◌^◌, ◌==◌, ◌&&◌, nat_lt, if◌then◌else◌, List, [], ◌++◌, codes, decimal}

-- the first of the formats, from the fewest units in a second on, that has the greatest fraction
abbrev pub narrowest_of : ℕ → List ℕ
narrowest_of most = if nat_lt most (10 ^ 6) then codes "posix" else (if nat_lt most (10 ^ 9) then codes "ptp" else codes "ntp")

-- the greatest fraction, and the format that it fits
abbrev pub fraction_text : ℕ → List ℕ
fraction_text most = codes " most " ++ decimal most ++ codes " narrowest " ++ narrowest_of most ++ codes "\n"

-- the same of so many
abbrev pub most_fraction : ℕ → ℕ → List ℕ
most_fraction count most = if count == 0 then codes " most - narrowest -\n" else fraction_text most

-- the line of the format, with the fractions that were read by it
unfoldable pub format_row : List ℕ → ℕ → ℕ → List ℕ
format_row format count most = codes "format " ++ format ++ codes " fractions " ++ decimal count ++ most_fraction count most

-- a number behind its label
unfoldable pub labelled : List ℕ → ℕ → List ℕ
labelled label number = label ++ decimal number

-- how many found no row in the tables
abbrev pub beyond_text : ℕ → ℕ → ℕ → ℕ → List ℕ
beyond_text spaces ways hops nodes =
    labelled (codes "beyond namespaces ") spaces ++ labelled (codes " ways ") ways ++ labelled (codes " hops ") hops ++ labelled (codes " nodes ") nodes ++ codes "\n"

-- whether all found one
abbrev pub are_none : ℕ → ℕ → ℕ → ℕ → Bool
are_none spaces ways hops nodes = spaces == 0 && (ways == 0 && (hops == 0 && nodes == 0))

-- the line of those that found none, if there are some
unfoldable pub beyond_row : ℕ → ℕ → ℕ → ℕ → List ℕ
beyond_row spaces ways hops nodes = if are_none spaces ways hops nodes then [] else beyond_text spaces ways hops nodes

-- how many traces there were
unfoldable pub traces_row : ℕ → ℕ → ℕ → List ℕ
traces_row traces overflow bad = codes "traces " ++ decimal traces ++ codes " overflow " ++ decimal overflow ++ codes " bad " ++ decimal bad ++ codes "\n"

-- how many records there were, and how many of them hold no packet whose header chain is whole
unfoldable pub packets_row : ℕ → ℕ → List ℕ
packets_row packets skipped = codes "packets " ++ decimal packets ++ codes " skipped " ++ decimal skipped ++ codes "\n"
