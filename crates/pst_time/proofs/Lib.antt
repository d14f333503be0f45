pub mod CalendarLemmas
pub mod TextLemmas
