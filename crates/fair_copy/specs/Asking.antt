-- The asks of a file, which its fair copy leaves out.
use Rattle.std.specs.Prelude.{Bool, true, false, List}
use Rattle.std.specs.List.{filter}
use Rattle.frames.specs.declared.Frame.{Frame}
use Rattle.frames.specs.declared.Frame.TheVariants.{Ask, AskFrom}

-- a frame asks
abbrev pub is_ask : Frame → Bool
is_ask (Ask a b) = true
is_ask (AskFrom a) = true
is_ask other = false

-- the asks of a file, in their order
abbrev pub asks_of : List Frame → List Frame
asks_of fs = filter is_ask fs
