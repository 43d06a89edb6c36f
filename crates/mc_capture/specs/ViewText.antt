-- The text of a view: a line for each record of a capture that carries no bytes, and for each that
-- does the lines of the frames that become whole by it (rules of this project).
use Rattle.std.specs.Prelude.{ℕ, ◌==◌, List, [], ◌∷◌, ◌++◌, if◌then◌else◌}
use Rattle.mc_capture.specs.declared.record.Record.{Record}
use Rattle.mc_capture.specs.declared.states.Way.TheVariants.{Up, Down}
use Rattle.mc_capture.specs.FrameLines.{happening_line}
use Rattle.mc_capture.specs.Talks.{Talk, heard_lines, new_talk, talk_after}

-- the lines of a record, by what its connection came to before it
abbrev pub record_lines : Talk → Record → List ℕ
record_lines talk r =
    if r.kind == 1 then heard_lines r.connection Up talk r.bytes
    else if r.kind == 4 then heard_lines r.connection Down talk r.bytes
    else happening_line r.kind r.connection

-- what its connection comes to by it
abbrev pub after_record : Talk → Record → Talk
after_record talk r =
    if r.kind == 1 then talk_after r.connection Up talk r.bytes
    else if r.kind == 4 then talk_after r.connection Down talk r.bytes
    else talk

-- what a connection came to by its records among some, from what it came to before them
abbrev pub talk_behind : ℕ → Talk → List Record → Talk
talk_behind k talk [] = talk
talk_behind k talk (r ∷ records) =
    talk_behind k (if r.connection == k then after_record talk r else talk) records

abbrev pub talk_of : ℕ → List Record → Talk
talk_of k records = talk_behind k new_talk records

-- the lines of records that follow others
abbrev pub lines_behind : List Record → List Record → List ℕ
lines_behind earlier [] = []
lines_behind earlier (r ∷ records) =
    record_lines (talk_of r.connection earlier) r ++ lines_behind (earlier ++ r ∷ []) records

unfoldable pub view_text : List Record → List ℕ
view_text records = lines_behind [] records
