-- What a program makes of its arguments: each has a role, by its text and by the role of the one before it, and the roles decide. Assumes
-- nothing.
use Rattle.std.specs.Prelude.{◌≡◌, Bool, true, false, cond, ◌&&◌, List, [], ◌∷◌, ℕ, zero, suc, ◌+◌, ◌-◌, eqb, ltb, length, get_or, take}
use Rattle.std.specs.Prelude.{Option, None, Some, is_some, is_none, Result, Ok, Err}
use Rattle.std.specs.Option.{option_or}
use denote.Enum.Bare.{sameb}
use Rattle.card.specs.Listing.{bytes_of}
use Rattle.code.specs.Call.{same_bytes}
use Rattle.report.specs.Window.{is_window}
use Rattle.report.specs.declared.row.Window.{Window}
use Rattle.card.specs.Record.{erasure_bytes}
use Rattle.card.specs.Conversion.{old_erasure_bytes}
use Rattle.programs.specs.contracts.arguments.Role.{the_type}
use Rattle.programs.specs.declared.arguments.Role.{Role}
use Rattle.programs.specs.declared.arguments.Role.TheVariants.{Name, Operand, OutValue, ReachValue, OutOption, ReachOption, HelpOption, VersionOption, Unknown}
use Rattle.programs.specs.declared.arguments.WindowError.{WindowError}
use Rattle.programs.specs.declared.arguments.WindowError.TheVariants.{First, End, Order}
use Rattle.programs.specs.declared.arguments.Asked.{Asked}
use Rattle.programs.specs.declared.arguments.Asked.TheVariants.{Run, Help, Version, Wrong, Missing}
use Rattle.programs.specs.declared.status.Status.{Status}
use Rattle.programs.specs.declared.status.Status.TheVariants.{Done, AnsweredNo, NotDone}

-- ---- roles

-- the program's name, which is argument 0; an operand; the values of -o and --reach; these options; --help and --version; what no program
-- takes. `==` on them:
abbrev pub same_role : Role → Role → Bool
same_role = sameb the_type

-- a text that begins with a hyphen is an option, but for the hyphen alone, which is standard input
abbrev pub plain_role : List ℕ → Role
plain_role [] = Operand
plain_role (c ∷ []) = Operand
plain_role (c ∷ d ∷ text) = cond (eqb c 45) Unknown Operand

-- the role of a text that is no option's value
unfoldable pub own_role : List ℕ → Role
own_role text =
    cond (same_bytes text (bytes_of "-o")) OutOption
    (cond (same_bytes text (bytes_of "--reach")) ReachOption
    (cond (same_bytes text (bytes_of "--help")) HelpOption
    (cond (same_bytes text (bytes_of "--version")) VersionOption (plain_role text))))

-- the role of a text behind an argument of the role `before`
abbrev pub role_of : Role → List ℕ → Role
role_of OutOption text = OutValue
role_of ReachOption text = ReachValue
role_of before text = own_role text

-- ---- what they decide

-- where the n-th argument of the role stands, counted from `at`
unfoldable pub argument_from : ℕ → List Role → Role → ℕ → Option ℕ
argument_from at [] role n = None
argument_from at (x ∷ xs) role n =
    cond (same_role x role) (cond (eqb n 1) (Some at) (argument_from (at + 1) xs role (n - 1))) (argument_from (at + 1) xs role n)

-- argument 0 is the program's name: whatever role it has, it is none that is looked for
abbrev pub behind_name : Option ℕ → Option ℕ
behind_name None = None
behind_name (Some zero) = None
behind_name (Some (suc i)) = Some (suc i)

-- among all arguments
abbrev pub argument_at : List Role → Role → ℕ → Option ℕ
argument_at roles role n = behind_name (argument_from 0 roles role n)

-- an option that the program does not take: none takes an unknown one
abbrev pub untaken : Bool → Role → List Role → Option ℕ
untaken true role roles = None
untaken false role roles = argument_at roles role 1

-- a value belongs to it
abbrev pub takes_value : Role → Bool
takes_value OutOption = true
takes_value ReachOption = true
takes_value role = false

-- an option at the end, whose value is missing
abbrev pub dangling : List Role → Option ℕ
dangling roles = behind_name (cond (takes_value (get_or roles (length roles - 1) Name)) (Some (length roles - 1)) None)

-- the first argument that is wrong: an unknown option, one that the program does not take, an operand too many, an option that stands twice,
-- an option without its value
unfoldable pub wrong_place : Bool → Bool → ℕ → List Role → Option ℕ
wrong_place out reach most roles =
    option_or (argument_at roles Unknown 1)
    (option_or (untaken out OutOption roles)
    (option_or (untaken reach ReachOption roles)
    (option_or (argument_at roles Operand (most + 1))
    (option_or (argument_at roles OutOption 2)
    (option_or (argument_at roles ReachOption 2) (dangling roles))))))

-- are there fewer operands than the program needs?
abbrev pub too_few : ℕ → List Role → Bool
too_few least roles = ltb 0 least && is_none (argument_at roles Operand least)

-- what is asked, by the argument that is wrong and by whether operands are missing
abbrev pub wrong_asked : Option ℕ → Bool → Asked
wrong_asked None few = cond few Missing Run
wrong_asked (Some i) few = Wrong i

-- what is asked of a program that takes so many operands, and these options
unfoldable pub asked_of : Bool → Bool → ℕ → ℕ → List Role → Asked
asked_of out reach least most roles =
    cond (is_some (argument_at roles HelpOption 1)) Help
    (cond (is_some (argument_at roles VersionOption 1)) Version (wrong_asked (wrong_place out reach most roles) (too_few least roles)))

-- ---- how a program ends that is not asked to run

-- a text was printed or not: no question was answered
abbrev pub Printed : Status → Type 0
Printed Done = Unit {0}
Printed AnsweredNo = ⊥
Printed NotDone = Unit {0}

-- a program that can't take its arguments has not done what was asked
abbrev pub Explained : Asked → Status → Type 0
Explained Run s = s ≡ NotDone
Explained Help s = Printed s
Explained Version s = Printed s
Explained (Wrong i) s = s ≡ NotDone
Explained Missing s = s ≡ NotDone

-- ---- what single operands and values say

-- the card to convert has records of so many erasure bytes, where the text names a conversion
unfoldable pub edition_of : List ℕ → Option ℕ
edition_of text =
    cond (same_bytes text (bytes_of "to-new")) (Some old_erasure_bytes)
    (cond (same_bytes text (bytes_of "to-old")) (Some erasure_bytes) None)

-- the longest reach, where the text names one
unfoldable pub reach_in : List ℕ → Option ℕ
reach_in text =
    cond (same_bytes text (bytes_of "0")) (Some 0)
    (cond (same_bytes text (bytes_of "1")) (Some 1) (cond (same_bytes text (bytes_of "2")) (Some 2) None))

-- the window between two times, or what is wrong with them
abbrev pub chosen_end : ℕ → Option ℕ → Result Window WindowError
chosen_end a None = Err End
chosen_end a (Some b) = cond (is_window (record { first = a; end = b })) (Ok (record { first = a; end = b })) (Err Order)

abbrev pub window_chosen : Option ℕ → Option ℕ → Result Window WindowError
window_chosen None t = Err First
window_chosen (Some a) t = chosen_end a t

-- is the file standard input? So it is where it is not named, or by a hyphen
abbrev pub is_standard : Option ℕ → List ℕ → Bool
is_standard None text = true
is_standard (Some i) text = same_bytes text (bytes_of "-")

-- does the name stand for a device? No new file takes its place
abbrev pub is_device : List ℕ → Bool
is_device path = same_bytes (take 5 path) (bytes_of "/dev/")
