-- What the arguments of the command line ask for.
use Rattle.std.specs.Prelude.{ℕ, ◌+◌, ◌-◌, ◌*◌, ◌==◌, ◌&&◌, not, nat_le, Bool, false, List, [], ◌∷◌, codes, Option, Some, None}
use Rattle.std.specs.Prelude.{if◌then◌else◌}
use Rattle.std.specs.List.{list_all, fold}
use Rattle.std.specs.Char.{is_ascii_digit}
use Rattle.std.specs.Str.{bytes_eq}
use Rattle.pm_answer.specs.declared.arguments.Command.{Command}
use Rattle.pm_answer.specs.declared.arguments.Command.TheVariants.{File, Demo, Serve}
use Rattle.pm_answer.specs.declared.arguments.FileCommand.TheVariants.{Run, Trace, Check, Bill, Ask, Free}

-- the greatest size and the greatest number of a demo
abbrev pub size_limit : ℕ
size_limit = 200

abbrev pub number_limit : ℕ
number_limit = 4294967295

-- ASCII digits without a leading zero; 0 itself is one digit
abbrev pub is_number : List ℕ → Bool
is_number [] = false
is_number (digit ∷ []) = is_ascii_digit digit
is_number (digit ∷ next ∷ more) = is_ascii_digit digit && not (digit == 48) && list_all is_ascii_digit (next ∷ more)

-- the number with one decimal digit more
abbrev pub with_digit : ℕ → ℕ → ℕ
with_digit value digit = value * 10 + (digit - 48)

-- the number that decimal digits write
abbrev pub value_of : List ℕ → ℕ
value_of digits = fold with_digit 0 digits

-- the number that decimal digits write, if it is at most this one
abbrev pub value_up_to : ℕ → List ℕ → Option ℕ
value_up_to high digits = if nat_le (value_of digits) high then Some (value_of digits) else None

-- the number of an argument, if the argument is one within these limits
abbrev pub number_within : ℕ → ℕ → List ℕ → Option ℕ
number_within low high argument =
    if is_number argument && nat_le low (value_of argument) && nat_le (value_of argument) high then Some (value_of argument) else None

abbrev pub demo_with : Option ℕ → Option ℕ → Option Command
demo_with None number = None
demo_with (Some size) None = None
demo_with (Some size) (Some number) = Some (Demo size number)

-- `demo SIZE NUMBER`
abbrev pub demo_of : List ℕ → List ℕ → Option Command
demo_of size number = demo_with (number_within 1 size_limit size) (number_within 0 number_limit number)

-- `run`, `trace`, `check`, `bill`, `serve`, `ask` and `free`
abbrev pub single_of : List ℕ → Option Command
single_of argument =
    if bytes_eq argument (codes "run") then Some (File Run)
    else if bytes_eq argument (codes "trace") then Some (File Trace)
    else if bytes_eq argument (codes "check") then Some (File Check)
    else if bytes_eq argument (codes "bill") then Some (File Bill)
    else if bytes_eq argument (codes "serve") then Some Serve
    else if bytes_eq argument (codes "ask") then Some (File Ask)
    else if bytes_eq argument (codes "free") then Some (File Free)
    else None

-- each of these words alone, and `demo` with two numbers
abbrev pub command : List (List ℕ) → Option Command
command [] = None
command (argument ∷ []) = single_of argument
command (argument ∷ next ∷ []) = None
command (argument ∷ size ∷ number ∷ []) = if bytes_eq argument (codes "demo") then demo_of size number else None
command (argument ∷ size ∷ number ∷ next ∷ more) = None
