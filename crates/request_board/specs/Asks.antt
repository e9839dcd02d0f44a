-- Lists of requests, cut by the client that asked.
use Rattle.std.specs.Prelude.{◌==◌, Bool, true, false, List, [], ◌∷◌, Option, Some, None, if◌then◌else◌}
use Rattle.mission_model.specs.declared.request.Client.{Client}
use Rattle.mission_model.specs.declared.request.Client.TheVariants.{Nav, Link, Watch}
use Rattle.mission_model.specs.declared.request.Request.{Request}
use Rattle.mission_model.specs.declared.request.Asked.{Asked}
use Rattle.mission_model.specs.declared.request.Reply.{Reply}
use Rattle.mission_model.specs.Shown.{asked_of}

-- the two are one client
abbrev pub same_client : Client → Client → Bool
same_client Nav Nav = true
same_client (Link number) (Link other) = number == other
same_client (Watch number) (Watch other) = number == other
same_client client other = false

-- who is served and what it asked, where a request is in service
abbrev pub in_service : Option (Client × Request) → Option (Client × Asked)
in_service None = None
in_service (Some (client, request)) = Some (client, asked_of request)

-- none or one
abbrev pub listed : Option (Client × Asked) → List (Client × Asked)
listed None = []
listed (Some ask) = ask ∷ []

-- these requests without the items that they write
abbrev pub abouts : List (Client × Request) → List (Client × Asked)
abouts [] = []
abouts ((client, request) ∷ asks) = (client, asked_of request) ∷ abouts asks

-- what the client asked of these
abbrev pub own_abouts : Client → List (Client × Asked) → List Asked
own_abouts client [] = []
own_abouts client ((other, about) ∷ asks) = if same_client client other then about ∷ own_abouts client asks else own_abouts client asks

-- what these replies are on
abbrev pub replied : List (Asked × Reply) → List Asked
replied [] = []
replied ((about, reply) ∷ replies) = about ∷ replied replies
