-- The order in which a client puts items into its stream (RFC 6120, sections 4.2 to 4.4).
use Rattle.std.specs.Prelude.{◌≡◌, true, false, List, [], ◌∷◌, ◌++◌, Option, IfSome}
use Rattle.std.specs.List.{AllByRecursion}
use Rattle.cl_login.specs.LoginRows.{client_header}
use Rattle.cl_handlers.specs.Clients.{ClientStep}
use Rattle.cl_handlers.specs.ClientSteps.{is_apart}
use Rattle.xml_framer.specs.declared.states.Phase.TheVariants as stream
use Rattle.sm_outbox.specs.Sessions.{SessionView}
use Rattle.law_xml.specs.PutLists.{MayAll, phase_after}
use Rattle.xml_writer.specs.Items.{ItemOut, Opening}
use Rattle.law_xml.specs.Puts.{phase_behind}

-- what waits is no footer
abbrev pub IsNoEnd : ItemOut → Type 0
IsNoEnd item = phase_behind item ≡ stream.Between

abbrev pub HasNoEnd : Option (SessionView ItemOut) → Type 0
HasNoEnd o = IfSome o (λ (s : SessionView ItemOut). AllByRecursion IsNoEnd s.waiting.queue)

-- Items are put, each where it may be, between header and footer; as long as the connection stands no footer was put; and
-- nothing is put where none stood.
pub record PutsInOrder (old new : ClientStep ItemOut ItemOut) : Type 0 where
  pub more : List ItemOut
  pub put : new.out.put ≡ old.out.put ++ more
  pub may : MayAll stream.Between more
  pub stands : is_apart new.client.phase ≡ false → phase_after stream.Between more ≡ stream.Between
  pub silent : is_apart old.client.phase ≡ true → more ≡ []
  pub queue : HasNoEnd new.client.session

-- a connection begins with a header
pub record PutsHeader (old new : ClientStep ItemOut ItemOut) : Type 0 where
  pub put : new.out.put ≡ old.out.put ++ Opening (client_header old.client.account.login.domain) ∷ []
  pub stands : is_apart new.client.phase ≡ false
  pub queue : HasNoEnd new.client.session
