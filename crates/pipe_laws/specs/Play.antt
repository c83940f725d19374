-- A machine that plays from its start, whatever event comes next.
use Rattle.std.specs.Prelude.{◌≡◌, ℕ, ◌<◌, ◌≤◌, List, [], length, replicate}
use Rattle.pipe_laws.specs.Machine.{Ring, Tied, cursor, place}
use Rattle.pipe_laws.specs.Flow.{Flow, Begins, PopsTied, Solves, run}
use Rattle.pipe_laws.specs.World.{World, Allowed, Events, Owns, actor, ends, put_in, wish}

module _ {X M : Type 0} (f : Flow X M) where
  -- no event was, and nothing was received
  abbrev pub first_world : World X
  first_world = record { places = replicate f.net.actors 0; received = λ r. [] }

  -- the machine after a list of events
  abbrev pub played : List ℕ → World X
  played events = ends f first_world events

  -- what ties a flow to its net and to the streams
  pub record IsTied (streams : Ring → List X) : Type 0 where
    pub owns : Owns f
    pub pops : PopsTied f.net
    pub firsts : (r : Ring) → f.net.first r ≡ length (f.initial r)
    pub solves : Solves f streams

  -- each actor is where the streams leave it; what was received begins what was sent, and what was sent
  -- begins the stream
  pub record IsAsStreams (streams : Ring → List X) (w : World X) : Type 0 where
    pub actors : (a : ℕ) → a < f.net.actors → actor f w a ≡ run f streams a (place w.places a)
    pub received : (r : Ring) → Begins (w.received r) (put_in f w r)
    pub sent : (r : Ring) → f.net.maker r < f.net.actors → Begins (put_in f w r) (streams r)

-- so it is after every list of events that can happen
abbrev pub Interleavings : (X M : Type 0) → Type 0
Interleavings X M = (f : Flow X M) (streams : Ring → List X) → IsTied f streams
    → (events : List ℕ) → Events f (first_world f) events → IsAsStreams f streams (played f events)

-- and while an actor isn't behind the last step, some actor's next move finds its item or its slot
abbrev pub SomeCanStep : (X M : Type 0) → Type 0
SomeCanStep X M = (f : Flow X M) (streams : Ring → List X) → IsTied f streams
    → (last : ℕ) → Tied f.net last
    → (events : List ℕ) → Events f (first_world f) events
    → (w : ℕ) → w < f.net.actors
    → (cursor (f.net.script w) (place (played f events).places w)).step ≤ last
    → (a : ℕ) × (a < f.net.actors) × Allowed f (played f events) (wish f (played f events) a)
