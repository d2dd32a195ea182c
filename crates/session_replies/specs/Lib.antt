pub mod ReplyData
