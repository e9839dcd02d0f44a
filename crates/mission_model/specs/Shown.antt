-- What the record shows of a request and of a message: all but the item.
use Rattle.mission_model.specs.declared.request.Request.{Request}
use Rattle.mission_model.specs.declared.request.Request.TheVariants as request
use Rattle.mission_model.specs.declared.request.Asked.{Asked}
use Rattle.mission_model.specs.declared.request.Asked.TheVariants as about
use Rattle.mission_model.specs.declared.message.Message.{Message}
use Rattle.mission_model.specs.declared.message.Message.TheVariants as message
use Rattle.mission_model.specs.declared.message.Said.{Said}
use Rattle.mission_model.specs.declared.message.Said.TheVariants as said

-- the request without the item that it writes
abbrev pub asked_of : Request → Asked
asked_of (request.Read kind id seq) = about.Read kind id seq
asked_of (request.Write kind id seq item) = about.Write kind id seq
asked_of (request.Commit kind id count) = about.Commit kind id count
asked_of (request.SetMark mark) = about.SetMark mark

-- the message without its item
abbrev pub said_of : Message → Said
said_of (message.Count kind count) = said.Count kind count
said_of (message.Item seq item) = said.Item seq
said_of (message.ClearAll kind) = said.ClearAll kind
said_of (message.SetCurrent seq) = said.SetCurrent seq
said_of message.Cancel = said.Cancel
said_of message.Timeout = said.Timeout
