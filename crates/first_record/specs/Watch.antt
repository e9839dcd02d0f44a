-- The texts of a watcher's inputs and notes.
use Rattle.std.specs.Prelude.{ℕ, List, ◌++◌, codes, decimal}
use Rattle.std.specs.Fmt.{signed_decimal}
use Rattle.first_model.specs.declared.watch.Note.{Note}
use Rattle.first_model.specs.declared.watch.WatchInput.{WatchInput}

-- what a watcher is to do: CODE A B
abbrev pub watch_input_text : WatchInput → List ℕ
watch_input_text input = decimal input.code ++ codes " " ++ signed_decimal input.a ++ codes " " ++ signed_decimal input.b

-- a place in the plane: X Y
abbrev pub spot_text : Note → List ℕ
spot_text note = signed_decimal note.x ++ codes " " ++ signed_decimal note.y

-- what a watcher tells: CODE A B X Y
abbrev pub note_text : Note → List ℕ
note_text note = decimal note.code ++ codes " " ++ decimal note.a ++ codes " " ++ decimal note.b ++ codes " " ++ spot_text note
