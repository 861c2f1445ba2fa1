mod CallLemmas
mod RoomLemmas
