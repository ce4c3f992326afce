-- law: rounds of a network that is calm, on the links of one device
pub mod Rounds
-- law: how connections and sessions end there
pub mod Ends
