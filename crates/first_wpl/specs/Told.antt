-- How a fault of the text below is told as a fault of the plan text.
use Rattle.first_text.specs.declared.fault.TextFault.{TextFault}
use Rattle.first_text.specs.declared.fault.TextFault.TheVariants.{NotAscii, LongLine}
use Rattle.first_text.specs.declared.fault.TextFault.TheVariants as text
use Rattle.first_wpl.specs.declared.fault.WplFault.{WplFault}
use Rattle.first_wpl.specs.declared.fault.WplFault.TheVariants.{Text, Memory}

-- want of memory is told as such, and every other fault as one of the text
abbrev pub told_of_text : TextFault → WplFault
told_of_text (text.Memory source) = Memory source
told_of_text (NotAscii place) = Text (NotAscii place)
told_of_text (LongLine number) = Text (LongLine number)
