-- Times in the form of RFC 3339, as 2025-11-24T16:00:02.74Z.
use Rattle.std.specs.Prelude.{ℕ, ◌≡◌, ◌+◌, ◌-◌, ◌*◌, ◌/◌, ◌%◌, ◌==◌, nat_lt, if◌then◌else◌}
use Rattle.std.specs.Prelude.{List, [], ◌∷◌, ◌++◌, codes, decimal}

-- ---- the date of a day, counted from 1970-01-01: a year begins on 1 March, and 400 years are an era

abbrev pub day_of_era : ℕ → ℕ
day_of_era days = (days + 719468) % 146097

abbrev pub era_of : ℕ → ℕ
era_of days = (days + 719468) / 146097

-- of a day of an era: its year, and the day and the month of that year; month 0 is March
unfoldable pub year_of_era : ℕ → ℕ
year_of_era day = ((day + day / 36524) - (day / 1460 + day / 146096)) / 365

unfoldable pub day_of_year : ℕ → ℕ
day_of_year day =
    day - ((365 * year_of_era day + year_of_era day / 4) - year_of_era day / 100)

unfoldable pub month_index : ℕ → ℕ
month_index day = (5 * day_of_year day + 2) / 153

abbrev pub month_of : ℕ → ℕ
month_of day =
    if nat_lt (month_index day) 10 then month_index day + 3 else month_index day - 9

abbrev pub day_of_month : ℕ → ℕ
day_of_month day = (day_of_year day - (153 * month_index day + 2) / 5) + 1

-- January and February are of the next year
abbrev pub carry : ℕ → ℕ
carry month = if nat_lt month 3 then 1 else 0

abbrev pub year_of : ℕ → ℕ
year_of days =
    (year_of_era (day_of_era days) + 400 * era_of days) + carry (month_of (day_of_era days))

-- ---- texts

abbrev pub digit : ℕ → ℕ
digit n = 0x30 + n % 10

abbrev pub two : ℕ → List ℕ
two n = digit (n / 10) ∷ digit n ∷ []

-- `2025-11-24`
abbrev pub date_text : ℕ → List ℕ
date_text days =
    two (year_of days / 100) ++ (two (year_of days) ++ (codes "-"
    ++ (two (month_of (day_of_era days)) ++ (codes "-" ++ two (day_of_month (day_of_era days))))))

-- `16:00:02`
abbrev pub clock_text : ℕ → List ℕ
clock_text ms =
    two (ms / 3600000 % 24) ++ (codes ":" ++ (two (ms / 60000 % 60)
    ++ (codes ":" ++ two (ms / 1000 % 60))))

-- `.74`: of thousandths, without zeros at the end
abbrev pub fraction_text : ℕ → List ℕ
fraction_text ms =
    if ms % 1000 == 0 then []
    else if ms % 100 == 0 then 0x2E ∷ digit (ms / 100) ∷ []
    else if ms % 10 == 0 then 0x2E ∷ digit (ms / 100) ∷ digit (ms / 10) ∷ []
    else 0x2E ∷ digit (ms / 100) ∷ digit (ms / 10) ∷ digit ms ∷ []

abbrev pub end_text : ℕ → List ℕ
end_text ms = fraction_text ms ++ codes "Z"

abbrev pub time_text : ℕ → List ℕ
time_text ms = date_text (ms / 86400000) ++ (codes "T" ++ (clock_text ms ++ end_text ms))

abbrev pub day_text : ℕ → List ℕ
day_text ms = if nat_lt ms 253402300800000 then date_text (ms / 86400000) else decimal ms

-- words and a time; nothing if its year has more than four digits
abbrev pub when_text : List ℕ → ℕ → List ℕ
when_text words ms = if nat_lt ms 253402300800000 then words ++ time_text ms else []

-- ---- worked rows: times as another calendar has them

abbrev pub TimesWorked : Type 0
TimesWorked =
    (when_text [] 0 ≡ codes "1970-01-01T00:00:00Z")
    × (when_text [] 951782400000 ≡ codes "2000-02-29T00:00:00Z")
    × (when_text [] 951868800000 ≡ codes "2000-03-01T00:00:00Z")
    × (when_text [] 4107456000000 ≡ codes "2100-02-28T00:00:00Z")
    × (when_text [] 4107542400000 ≡ codes "2100-03-01T00:00:00Z")
    × (when_text [] 1764000002740 ≡ codes "2025-11-24T16:00:02.74Z")
    × (when_text [] 253402300799999 ≡ codes "9999-12-31T23:59:59.999Z")
    × (when_text [] 253402300800000 ≡ [])
